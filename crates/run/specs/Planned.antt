-- The plan of a call of a record, and the bench that a plan leaves.
-- Internal, for the code: the machine that is signed is unit/specs/Calls.antt and Machine.antt.
use Rattle.std.specs.Prelude.{Some, None}
use Rattle.std.specs.Prelude.{Option}
use Rattle.std.specs.Prelude.{◌≤◌, ◌≡◌}
use Rattle.run.specs.Names.{ℕ, Bool, true, List, length, posted, Meters, Bill, Bank, command_of, Stall, Registers, request_plan}
use Rattle.run.specs.Names.{write_plan, read_plan, drop_plan, shift_plan, Plan, Done, in_range, Call, all_good, Bench, Stepped}
use Rattle.run.specs.MayRun.{run_size}

-- by what was tested: ok that the device is in range, l that the memories are not refused, x that prices and bill are not
abbrev pub plan_of : Bool → Bool → Bool → ℕ → Option Stall → Option Call → Plan
plan_of ok l x c q (Some (Call.Write o v)) = write_plan ok l x c q (command_of o v)
plan_of ok l x c q (Some (Call.Read o)) = read_plan ok o
plan_of ok l x c q (Some (Call.Request va a)) = request_plan ok l x q va a
plan_of ok l x c q (Some Call.Drop) = drop_plan ok q
plan_of ok l x c q (Some (Call.Shift va)) = shift_plan ok l va
plan_of ok l x c q None = Plan.Done

-- a device of these parts is in range
abbrev pub parts_ok : Registers → Bank → Option Stall → Bool
parts_ok r k q = in_range (record { registers = r; bank = k; pending = q })

-- a bench of its parts
abbrev pub bench_of : Registers → Bank → Option Stall → Bill → Meters → Bench
bench_of r k q b t = record { device = record { registers = r; bank = k; pending = q }; bill = b; meters = t }

-- the bench after a plan, and what it says
abbrev pub bench_done : Meters → Done → Stepped
bench_done t x = record { bench = bench_of x.registers x.bank x.pending x.bill (posted t x.tally); said = x.said; from = x.from }

-- every record is a call, and there is room for what a run writes
pub record Runnable (calls out : List ℕ) : Type 0 where
  pub good : all_good calls ≡ true
  pub room : run_size calls ≤ length out
