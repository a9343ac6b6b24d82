use Rattle.wire.specs.Names.{◌+◌, ◌*◌, drop, ◌≡◌}
use Rattle.wire.proofs.Names.{placed}
use Rattle.wire.proofs.put.Given as goal

abbrev pub invariant-loop-i : goal.invariant-loop-i
invariant-loop-i l = placed l.initial.out l.at l.words ≡ placed l.out (l.at + 4 * l.i) (drop l.i l.words)
