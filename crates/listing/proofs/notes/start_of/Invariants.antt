use Rattle.listing.specs.Names.{◌≤◌, length}
use Rattle.listing.proofs.Comments.{Started}
use Rattle.listing.proofs.notes.start_of.Given as goal

abbrev pub invariant-loop : goal.invariant-loop
invariant-loop l = (l.at ≤ length l.text) × Started l.text l.k l.at l.counter
