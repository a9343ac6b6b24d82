use Rattle.listing.specs.Names.{◌+◌, ◌-◌, length}
use Rattle.listing.proofs.Turns.{Turn}
use Rattle.listing.proofs.text.read_lines.Given as goal

abbrev pub invariant-loop-at : goal.invariant-loop-at
invariant-loop-at l = Turn l.text l.initial.records l.initial.lines l.records l.lines l.at l.i l.n

abbrev pub decreases-loop-at : goal.decreases-loop-at
decreases-loop-at l = length l.text + 1 - l.at
