-- The device: fresh, in range, with parts set, and after an attempt (01, "The unit", "The walk").
use Rattle.std.specs.Prelude.{None}
use Rattle.page.specs.declared.Words.{Words}
use Rattle.std.specs.Prelude.{ℤ}
use Rattle.std.specs.Prelude.{Result}
use Rattle.decision.specs.declared.ShiftError.{ShiftError}
use Rattle.std.specs.Prelude.{Option}
use Rattle.unit.specs.Names.{ℕ, Bool, ◌and◌, Place, word_count, last_place, walk_in, no_tally, fresh_bank, bank_ok, entry_filled, fresh_registers, registers_ok, pending_ok}
use Rattle.unit.specs.Names.{decided, settled, tally_of, billed, Access, VirtualAddress, Lent, Walked, Bill, Prices, Bank, Answer}
use Rattle.unit.specs.Names.{Decision, Registers, Device, Outcome, Told, Reported}

-- a fresh device is all zero
abbrev pub fresh_device : Device
fresh_device = record { registers = fresh_registers; bank = fresh_bank; pending = None }

-- every field is in its range; where one is not, every call answers 8
unfoldable pub in_range : Device → Bool
in_range d = registers_ok d.registers and pending_ok d.pending and bank_ok d.bank

-- a device with one part set
abbrev pub set_registers : Device → Registers → Device
set_registers d r = record { registers = r; bank = d.bank; pending = d.pending }

abbrev pub set_bank : Device → Bank → Device
set_bank d b = record { registers = d.registers; bank = b; pending = d.pending }

abbrev pub cleared : Device → Device
cleared d = record { registers = d.registers; bank = d.bank; pending = None }

-- what a call hands back: accepted with nothing to say, or refused, and then nothing changes
abbrev pub told : Device → Answer → Told
told d r = record { device = d; answer = r }

abbrev pub told_refused : Device → ℕ → Told
told_refused d k = told d (Answer.Refused k)

abbrev pub told_done : Device → Told
told_done d = told d Answer.Done

abbrev pub reported : Device → Result ℤ ShiftError → Place → Reported
reported d s f = record { device = d; shift = s; from = f }

-- a call that reads no word leaves the bill as it is, adds nothing to the meters, and comes from nowhere
abbrev pub unbilled : Bill → Told → Outcome
unbilled b t = record { device = t.device; bill = b; tally = no_tally; answer = t.answer; from = Place.Nowhere }

abbrev pub done_with : Bill → Device → Outcome
done_with b d = unbilled b (told_done d)

abbrev pub refused_with : Device → Bill → ℕ → Outcome
refused_with d b k = unbilled b (told_refused d k)

-- what the plain walk of an address gives from the base register
abbrev pub look : Lent → Device → VirtualAddress → Walked
look m d va = walk_in m d.registers.base.0 va.0

-- the slots and the pending fault after a decision
abbrev pub applied : Device → Option Words → Answer → VirtualAddress → Access → Device
applied d f r va a = record { registers = d.registers; bank = entry_filled d.bank f; pending = settled va a d.pending r }

-- an attempt with its decision: again says whether it is a retry; it comes from where the last word that it read lies (02, P6)
abbrev pub concluded : Prices → Bill → Bool → Device → VirtualAddress → Access → Decision → Outcome
concluded p b again d va a x = record {
  device = applied d x.fill x.answer va a;
  bill = billed p b x;
  tally = tally_of again (word_count x.reads) x.answer;
  answer = x.answer;
  from = last_place x.reads;
}

-- what a request or a retry comes to where w is what the plain walk of its address gives
abbrev pub decided_by : Walked → Device → VirtualAddress → Access → Decision
decided_by w d va a = decided w d.registers.control d.bank.cam d.bank.ram va a

-- a request or a retry
abbrev pub attempt_of : Lent → Prices → Bill → Bool → Device → VirtualAddress → Access → Outcome
attempt_of m p b again d va a = concluded p b again d va a (decided_by (look m d va) d va a)
