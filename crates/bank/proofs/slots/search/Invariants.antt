use Rattle.bank.proofs.Seeking.{Seeking}
use Rattle.bank.proofs.slots.search.Given as goal

abbrev pub invariant-loop-i : goal.invariant-loop-i
invariant-loop-i l = Seeking l.lows l.highs l.x l.i l.best
