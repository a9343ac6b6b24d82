use Rattle.bank.proofs.Ends.{Filled}
use Rattle.bank.proofs.slots.Slots.of.Given as goal

abbrev pub invariant-loop-i : goal.invariant-loop-i
invariant-loop-i l = Filled l.bank.cam l.lows l.highs l.i
