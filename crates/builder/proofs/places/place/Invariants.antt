use Rattle.builder.specs.Names.{◌≡◌, length, megabytes}
use Rattle.builder.proofs.Levels.{Begun}
use Rattle.builder.proofs.places.place.Given as goal

abbrev pub invariant-loop-i : goal.invariant-loop-i
invariant-loop-i l = record { long : length l.firsts ≡ megabytes; begun : Begun l.seen.0 l.i l.end l.firsts }
