-- Demand 1, for every call: a refusal comes exactly when the paper says, and then nothing changes; a device in range
-- stays in range.
use Rattle.std.specs.Prelude.{ℤ, Result, Ok, Err, ◌^◌, ◌<◌, ◌≡◌, ◌∷◌}
use Rattle.decision.specs.declared.ShiftError.{ShiftError}
use Rattle.conduct.specs.Names.{ℕ, Bool, true, false, [], get_or, Lent, no_tally, BelowStop, Bill, Good, is_refusal}
use Rattle.conduct.specs.Names.{Device, Refusals, First, Clear, in_range, request_refusals, write_refusals, read_refusals, drop_refusals}
use Rattle.conduct.specs.Names.{shift_refusals, Call, request, write, read, drop-fault, shift, Said, said_number, Step, step, Bench, run}

-- the refusals of each call
abbrev pub refusals_of : Lent → Device → Bill → Call → Refusals
refusals_of m d b (request va a p) = request_refusals m p b d va
refusals_of m d b (write o v p) = write_refusals m p b d o v
refusals_of m d b (read o) = read_refusals d o
refusals_of m d b drop-fault = drop_refusals d
refusals_of m d b (shift va) = shift_refusals m d va

-- what is said is a refusal
abbrev pub shift_refused : Result ℤ ShiftError → Bool
shift_refused (Ok z) = false
shift_refused (Err ShiftError.Fault) = false
shift_refused (Err (ShiftError.Refused k)) = true

abbrev pub said_refused : Said → Bool
said_refused (Said.Answered r) = is_refusal r
said_refused (Said.Reported s) = shift_refused s

-- a call is refused with a number
abbrev pub RefusedWith : Said → ℕ → Type 0
RefusedWith s k = (said_refused s ≡ true) × (said_number s ≡ k)

-- a call is not refused
abbrev pub Accepted : Lent → Device → Bill → Call → Type 0
Accepted m d b c = said_refused (step m d b c).said ≡ false

-- each number is answered exactly when its condition holds and no earlier one does
abbrev pub ExactlyWhen : Type 0
ExactlyWhen =
    (m : Lent) (d : Device) (b : Bill) (c : Call) (k : ℕ) →
    (RefusedWith (step m d b c).said k → First (refusals_of m d b c) k) × (First (refusals_of m d b c) k → RefusedWith (step m d b c).said k)

-- and a call is accepted exactly when none of its conditions holds
abbrev pub AcceptedWhen : Type 0
AcceptedWhen =
    (m : Lent) (d : Device) (b : Bill) (c : Call) →
    (Accepted m d b c → Clear (refusals_of m d b c)) × (Clear (refusals_of m d b c) → Accepted m d b c)

-- device and bill are those handed in, and nothing is added to the meters
pub record Unchanged (d : Device) (b : Bill) (s : Step) : Type 0 where
  pub device : s.device ≡ d
  pub bill : s.bill ≡ b
  pub tally : s.tally ≡ no_tally

-- a refused call changes nothing
abbrev pub NothingChanges : Type 0
NothingChanges =
    (m : Lent) (d : Device) (b : Bill) (c : Call) → said_refused (step m d b c).said ≡ true → Unchanged d b (step m d b c)

-- so the whole bench is as it was, its meters too; that the lent bytes are is by type: no call is lent them to write
abbrev pub BenchStays : Type 0
BenchStays =
    (m : Lent) (s : Bench) (c : Call) → BelowStop s.meters → said_refused (step m s.device s.bill c).said ≡ true → run m s (c ∷ []) ≡ s

-- every call leaves a good bill good
abbrev pub GoodKept : Type 0
GoodKept = (m : Lent) (d : Device) (b : Bill) (c : Call) → Good b → Good (step m d b c).bill

-- what the type of a call says: a register's value has 16 bits
abbrev pub ValueFits : Call → Type 0
ValueFits (request va a p) = Unit {0}
ValueFits (write o v p) = v < 2 ^ 16
ValueFits (read o) = Unit {0}
ValueFits drop-fault = Unit {0}
ValueFits (shift va) = Unit {0}

-- what the types of the memories say: a byte has 8 bits
abbrev pub BytesFit : Lent → Type 0
BytesFit m = ((i : ℕ) → get_or m.on i 0 < 256) × ((i : ℕ) → get_or m.ext i 0 < 256)

-- from a device in range every call hands back one in range
abbrev pub RangeKept : Type 0
RangeKept =
    (m : Lent) (d : Device) (b : Bill) (c : Call) → BytesFit m → ValueFits c → in_range d ≡ true → in_range (step m d b c).device ≡ true
