use Rattle.listing.proofs.Comments.{Solid}
use Rattle.listing.proofs.notes.solid_to.Given as goal

abbrev pub invariant-loop-n : goal.invariant-loop-n
invariant-loop-n l = Solid l.s l.n
