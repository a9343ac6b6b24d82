use Rattle.listing.proofs.Columns.{Formed}
use Rattle.listing.proofs.printer.all_formed.Given as goal

abbrev pub invariant-loop-i : goal.invariant-loop-i
invariant-loop-i l = Formed l.records l.n l.i
