use Rattle.replay.specs.Names.{lent_of}
use Rattle.replay.proofs.Turns.{Going}
use Rattle.replay.proofs.replay.Given as goal

abbrev pub invariant-loop-i : goal.invariant-loop-i
invariant-loop-i l = Going (lent_of l.memories) l.prices l.calls l.n l.initial.bench l.initial.out l.out l.bench l.i
