-- The whole machine: any calls in any order, with the bill and the meters that they are posted to (01, demands 2 and 3).
use Rattle.std.specs.Prelude.{◌∷◌}
use Rattle.unit.specs.Names.{ℕ, List, [], no_tally, posted, Meters, answer_number, shift_number, Access, VirtualAddress, Lent, Place, Bill, Prices, Tally}
use Rattle.unit.specs.Names.{Device, Outcome, Told}
use Rattle.unit.specs.Calls.{request_of, write_of, read_of, drop_of, shift_of, shift_from}
pub use Rattle.decision.specs.declared.Said.{Said}

-- a call; prices are given with each that may walk, save the shift report
pub data Call : Type 0 where
  request : VirtualAddress → Access → Prices → Call
  write : ℕ → ℕ → Prices → Call
  read : ℕ → Call
  drop-fault : Call
  shift : VirtualAddress → Call

-- the paper's number of what is said
abbrev pub said_number : Said → ℕ
said_number (Said.Answered r) = answer_number r
said_number (Said.Reported s) = shift_number s

-- what a call leaves and says; from is where the last word of its walk lies, nowhere where it made none (02, P6)
pub record Step : Type 0 where
  pub device : Device
  pub bill : Bill
  pub tally : Tally
  pub said : Said
  pub from : Place

abbrev pub step_out : Outcome → Step
step_out o = record { device = o.device; bill = o.bill; tally = o.tally; said = Said.Answered o.answer; from = o.from }

abbrev pub step_told : Bill → Told → Step
step_told b t = record { device = t.device; bill = b; tally = no_tally; said = Said.Answered t.answer; from = Place.Nowhere }

abbrev pub step : Lent → Device → Bill → Call → Step
step m d b (request va a p) = step_out (request_of m p b d va a)
step m d b (write o v p) = step_out (write_of m p b d o v)
step m d b (read o) = step_told b (read_of d o)
step m d b drop-fault = step_told b (drop_of d)
step m d b (shift va) = record { device = d; bill = b; tally = no_tally; said = Said.Reported (shift_of m d va); from = shift_from m d va }

-- a bench in the middle of a session
pub record Bench : Type 0 where
  pub device : Device
  pub bill : Bill
  pub meters : Meters

-- the bench after a call: the tally is posted to the meters
abbrev pub bench_after : Meters → Step → Bench
bench_after t s = record { device = s.device; bill = s.bill; meters = posted t s.tally }

-- any calls in any order over the same two memories
abbrev pub run : Lent → Bench → List Call → Bench
run m s [] = s
run m s (c ∷ cs) = run m (bench_after s.meters (step m s.device s.bill c)) cs
