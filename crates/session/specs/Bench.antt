-- A bench in the middle of a session: what a call of a record makes of it and says, by the machine's own step (01, demand 2; 02, P1).
use Rattle.std.specs.Prelude.{Option, Some, None}
use Rattle.memory.specs.declared.Place.{Place}
use Rattle.meters.specs.Posted.{no_meters, posted}
use Rattle.meters.specs.declared.Meters.{Meters}
use Rattle.bill.specs.Bill.{fresh_bill}
use Rattle.registers.specs.declared.Answer.{Answer}
use Rattle.unit.specs.Names.{Lent, Prices}
use Rattle.unit.specs.Device.{fresh_device}
use Rattle.unit.specs.Machine
use Rattle.unit.specs.Machine.{Step, step}
use Rattle.calls.specs.declared.Call.{Call}
use Rattle.session.specs.declared.Bench.{Bench}
use Rattle.decision.specs.declared.Said.{Said}
use Rattle.session.specs.declared.Stepped.{Stepped}

-- a fresh device, bill and meters
abbrev pub fresh_bench : Bench
fresh_bench = record { device = fresh_device; bill = fresh_bill; meters = no_meters }

-- a step of the machine, its tally posted to the meters
abbrev pub made : Meters → Step → Stepped
made t s = record {
  bench = record { device = s.device; bill = s.bill; meters = posted t s.tally };
  said = s.said;
  from = s.from;
}

-- a call with its prices; a record that is none changes nothing
abbrev pub stepped : Lent → Prices → Bench → Option Call → Stepped
stepped m p b (Some (Call.Write o v)) = made b.meters (step m b.device b.bill (Machine.write o v p))
stepped m p b (Some (Call.Read o)) = made b.meters (step m b.device b.bill (Machine.read o))
stepped m p b (Some (Call.Request va a)) = made b.meters (step m b.device b.bill (Machine.request va a p))
stepped m p b (Some Call.Drop) = made b.meters (step m b.device b.bill Machine.drop-fault)
stepped m p b (Some (Call.Shift va)) = made b.meters (step m b.device b.bill (Machine.shift va))
stepped m p b None = record { bench = b; said = Said.Answered Answer.Done; from = Place.Nowhere }
