use Rattle.listing.specs.Names.{◌*◌, ◌<◌}
use Rattle.listing.proofs.Names.{end}
use Rattle.listing.proofs.Digits.{On}
use Rattle.listing.proofs.hex.digits.Given as goal

abbrev pub invariant-loop-x : goal.invariant-loop-x
invariant-loop-x l = (l.v < 16 * end) × On l.w l.v l.x-index
