-- Each call: its refusals in the paper's order, then what it does (01, "Registers", "When the unit says no").
use Rattle.std.specs.Prelude.{ℤ}
use Rattle.std.specs.Prelude.{Result, Err}
use Rattle.decision.specs.declared.ShiftError.{ShiftError}
use Rattle.std.specs.Prelude.{Option, Some, None}
use Rattle.std.specs.Prelude.{◌/◌, ◌%◌, ◌^◌, ◌∷◌}
use Rattle.unit.specs.Names.{ℕ, Bool, true, false, not, List, [], eqb, leb, pick, ◌and◌, ◌or◌, Place, word_count, last_place, is_missing, loaded}
use Rattle.unit.specs.Names.{copied, money_ok, slots, looked_up, idle, is_prefetch, limit, is_on, is_walking, setting, with_prefetch, with_copied}
use Rattle.unit.specs.Names.{words_of, entry_of, no_register, command_of, value_at, tended, Answer, billed, page_at, prefetch_decided, prefetch_kept}
use Rattle.unit.specs.Names.{shift_by, Access, VirtualAddress, Lent, lent_ok, Bill, Prices, Fault, Stall, Decision, Command}
use Rattle.unit.specs.Names.{Device, Outcome, Told}
use Rattle.unit.specs.Refusals.{Refusals, refuses}
use Rattle.registers.specs.Offsets.{prefetch_at, acknowledge_at, lock_at, load_at}
use Rattle.unit.specs.Device.{fresh_device, in_range, set_registers, set_bank, cleared, told, told_refused, done_with, refused_with, look, applied, attempt_of}

-- an offset is one of a list
abbrev pub one_of : List ℕ → ℕ → Bool
one_of [] o = false
one_of (k ∷ ks) o = eqb o k or one_of ks o

-- no slot matches
abbrev pub no_match : Option ℕ → Bool
no_match (Some i) = false
no_match None = true

-- refusal 3 of a request or a retry: it walks, and a descriptor that the walk needs is in neither memory
unfoldable pub lacks : Lent → Device → VirtualAddress → Bool
lacks m d va =
    is_on d.registers.control
    and no_match (looked_up d.bank.cam va)
    and is_walking d.registers.control
    and is_missing (look m d va).found

-- a request: 8, 1, 4, 9, 2, 3
abbrev pub request_refusals : Lent → Prices → Bill → Device → VirtualAddress → Refusals
request_refusals m p b d va =
    (not (in_range d), 8)
    ∷ (leb limit va.0, 1)
    ∷ (not (lent_ok m), 4)
    ∷ (not (money_ok p b), 9)
    ∷ (not (idle d.pending), 2)
    ∷ (lacks m d va, 3)
    ∷ []

unfoldable pub request_of : Lent → Prices → Bill → Device → VirtualAddress → Access → Outcome
request_of m p b d va a = refuses (request_refusals m p b d va) (refused_with d b) (attempt_of m p b false d va a)

-- 6: the registers that are only read
abbrev pub is_read_only : ℕ → Bool
is_read_only o = one_of (0x04 ∷ 0x0c ∷ 0x10 ∷ 0x14 ∷ 0x44 ∷ 0x48 ∷ 0x4c ∷ 0x50 ∷ []) o

-- 4 and 9: prefetch and acknowledge only
abbrev pub may_walk : ℕ → Bool
may_walk o = one_of (prefetch_at ∷ acknowledge_at ∷ []) o

-- 8: prefetch bit 14, lock base or victim of 32 or more, both load bits
unfoldable pub is_malformed : ℕ → ℕ → Bool
is_malformed o v =
    (eqb o prefetch_at and eqb (v / 2 ^ 14 % 2) 1)
    or (eqb o lock_at and (leb slots (v / 1024) or leb slots (v / 16 % 64)))
    or (eqb o load_at and eqb (v % 4) 3)

-- 7: prefetch unless on and walking, load or copy while walking is set, acknowledge with nothing pending
unfoldable pub is_untimely : Device → ℕ → ℕ → Bool
is_untimely d o v =
    (eqb o prefetch_at and not (is_on d.registers.control and is_walking d.registers.control))
    or (eqb o load_at and (eqb (v % 4) 1 or eqb (v % 4) 2) and is_walking d.registers.control)
    or (eqb o acknowledge_at and eqb (v % 2) 1 and idle d.pending)

-- 3: a prefetch or a retry that walks
abbrev pub retry_lacks : Lent → Device → Option Stall → Bool
retry_lacks m d None = false
retry_lacks m d (Some s) = not (is_prefetch s.fault) and lacks m d s.at

unfoldable pub write_lacks : Lent → Device → ℕ → ℕ → Bool
write_lacks m d o v =
    (eqb o prefetch_at and no_match (looked_up d.bank.cam (page_at v)) and is_missing (look m d (page_at v)).found)
    or (eqb o acknowledge_at and eqb (v % 2) 1 and retry_lacks m d d.pending)

-- a register write: 8, then 5, 6, 4 and 9, 8, 2, 7, 3
abbrev pub write_refusals : Lent → Prices → Bill → Device → ℕ → ℕ → Refusals
write_refusals m p b d o v =
    (not (in_range d), 8)
    ∷ (no_register o, 5)
    ∷ (is_read_only o, 6)
    ∷ (may_walk o and not (lent_ok m), 4)
    ∷ (may_walk o and not (money_ok p b), 9)
    ∷ (is_malformed o v, 8)
    ∷ (eqb o prefetch_at and not (idle d.pending), 2)
    ∷ (is_untimely d o v, 7)
    ∷ (write_lacks m d o v, 3)
    ∷ []

-- prefetch: no effect on a match, else a walk; the register keeps what was written, words are metered, it is no request
abbrev pub prefetch_ends : Prices → Bill → Device → ℕ → Decision → Outcome
prefetch_ends p b d v x = record {
  device = applied (set_registers d (with_prefetch d.registers (prefetch_kept (v % 2 ^ 14) d.registers.prefetch x.answer))) x.fill x.answer (page_at v) Access.Read;
  bill = billed p b x;
  tally = record { fresh = 0; retries = 0; words = word_count x.reads };
  answer = x.answer;
  from = last_place x.reads;
}

abbrev pub prefetched : Lent → Prices → Bill → Device → ℕ → Outcome
prefetched m p b d v = prefetch_ends p b d v (prefetch_decided (look m d (page_at v)) d.bank.cam (page_at v))

-- acknowledge: a pending prefetch is only dropped, another fault retried as it was
abbrev pub held_retried : Lent → Prices → Bill → Device → Fault → VirtualAddress → Access → Outcome
held_retried m p b d k va a = pick (is_prefetch k) (done_with b (cleared d)) (attempt_of m p b true d va a)

abbrev pub retried : Lent → Prices → Bill → Device → Option Stall → Outcome
retried m p b d None = done_with b d
retried m p b d (Some s) = held_retried m p b d s.fault s.at s.access

-- load stores the staged entry in the victim slot, copy reads that slot back
abbrev pub with_loaded : Device → Device
with_loaded d = set_bank d (loaded d.bank (words_of d.registers.staged))

abbrev pub with_copy : Device → Device
with_copy d = set_registers d (with_copied d.registers (entry_of (copied d.bank)))

-- what a write does past its refusals, by its command
abbrev pub carried : Lent → Prices → Bill → Device → Command → Outcome
carried m p b d (Command.Refused k) = refused_with d b k
carried m p b d Command.Nothing = done_with b d
carried m p b d Command.Reset = done_with b fresh_device
carried m p b d (Command.Set s) = done_with b (set_registers d (setting d.registers s))
carried m p b d (Command.Tend t) = done_with b (set_bank d (tended d.bank d.registers.staged t))
carried m p b d Command.Load = done_with b (with_loaded d)
carried m p b d Command.Copy = done_with b (with_copy d)
carried m p b d (Command.Prefetch v) = prefetched m p b d v
carried m p b d (Command.Acknowledge go) = pick go (retried m p b d d.pending) (done_with b d)

unfoldable pub write_of : Lent → Prices → Bill → Device → ℕ → ℕ → Outcome
write_of m p b d o v = refuses (write_refusals m p b d o v) (refused_with d b) (carried m p b d (command_of o v))

-- a register read: 8, then 5, 6
abbrev pub read_refusals : Device → ℕ → Refusals
read_refusals d o = (not (in_range d), 8) ∷ (no_register o, 5) ∷ (eqb o acknowledge_at, 6) ∷ []

unfoldable pub read_of : Device → ℕ → Told
read_of d o =
    refuses (read_refusals d o) (told_refused d)
    (told d (value_at o d.registers d.bank.lock d.bank.victim d.pending))

-- drop clears the pending fault: 8, then 7
abbrev pub drop_refusals : Device → Refusals
drop_refusals d = (not (in_range d), 8) ∷ (idle d.pending, 7) ∷ []

unfoldable pub drop_of : Device → Told
drop_of d = refuses (drop_refusals d) (told_refused d) (told (cleared d) Answer.Done)

-- the shift report: 8, then 1, 4, 3; it changes nothing
abbrev pub shift_refusals : Lent → Device → VirtualAddress → Refusals
shift_refusals m d va =
    (not (in_range d), 8)
    ∷ (leb limit va.0, 1)
    ∷ (not (lent_ok m), 4)
    ∷ (is_missing (look m d va).found, 3)
    ∷ []

unfoldable pub shift_of : Lent → Device → VirtualAddress → Result ℤ ShiftError
shift_of m d va = refuses (shift_refusals m d va) (λ (k : ℕ). Err (ShiftError.Refused k)) (shift_by va (look m d va).found)

-- and where the last word that its walk read lies, nowhere where it is refused (02, P6)
unfoldable pub shift_from : Lent → Device → VirtualAddress → Place
shift_from m d va = refuses (shift_refusals m d va) (λ (k : ℕ). Place.Nowhere) (last_place (look m d va).reads)
