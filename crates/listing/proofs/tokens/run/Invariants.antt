use Rattle.listing.proofs.Runs.{Passed}
use Rattle.listing.proofs.tokens.run.Given as goal

abbrev pub invariant-loop-i : goal.invariant-loop-i
invariant-loop-i l = Passed l.c l.s l.i
