-- A plan, done to a device: what it hands back, in parts and as each call hands it back.
-- Internal, for the code: the machine that is signed is unit/specs/Calls.antt and Machine.antt.
use Rattle.std.specs.Prelude.{ℤ}
use Rattle.std.specs.Prelude.{Result, Err}
use Rattle.decision.specs.declared.ShiftError.{ShiftError}
use Rattle.std.specs.Prelude.{◌≡◌}
use Rattle.plan.specs.declared.Tried.{Tried}
use Rattle.prices.specs.Prices.{prices_ok}
use Rattle.unit.specs.Device.{in_range}
use Rattle.unit.specs.Names.{Plan, Done, quietly, performed, Fit, Said, Acted, Lent, lent_ok, Bill, Prices, Answer, Device, Outcome, Told}

abbrev pub done_acted : Acted → Done
done_acted x = record {
  registers = x.device.registers;
  bank = x.device.bank;
  pending = x.device.pending;
  bill = x.bill;
  tally = x.tally;
  said = x.said;
  from = x.from;
}

-- what is tested before a call that may walk
abbrev pub tried_of : Lent → Prices → Bill → Device → Tried
tried_of m p b d = record { device = in_range d; memories = lent_ok m; prices = prices_ok p; bill = b }

-- what a plan asks of a device
abbrev pub Fitted : Device → Plan → Type 0
Fitted d x = Fit d.registers.control d.bank.cam d.bank.lock d.bank.victim x

-- some memories, prices and bill
pub record Alone (d : Device) (x : Plan) (y : Done) : Type 0 where
  pub memories : Lent
  pub prices : Prices
  pub bill : Bill
  pub is : y ≡ performed memories prices bill d.registers d.bank d.pending x

-- the answer and the shift in what is said
abbrev pub answer_in : Said → Answer
answer_in (Said.Answered r) = r
answer_in (Said.Reported s) = Answer.Done

abbrev pub shift_in : Said → Result ℤ ShiftError
shift_in (Said.Answered r) = Err ShiftError.Fault
shift_in (Said.Reported s) = s

abbrev pub told_of : Done → Told
told_of x = record { device = record { registers = x.registers; bank = x.bank; pending = x.pending }; answer = answer_in x.said }

abbrev pub outcome_of : Done → Outcome
outcome_of x = record {
  device = record { registers = x.registers; bank = x.bank; pending = x.pending };
  bill = x.bill;
  tally = x.tally;
  answer = answer_in x.said;
  from = x.from;
}

-- and back
abbrev pub done_by : Outcome → Done
done_by x = record {
  registers = x.device.registers;
  bank = x.device.bank;
  pending = x.device.pending;
  bill = x.bill;
  tally = x.tally;
  said = Said.Answered x.answer;
  from = x.from;
}

abbrev pub done_told : Bill → Told → Done
done_told b x = quietly x.device.registers x.device.bank x.device.pending b (Said.Answered x.answer)
