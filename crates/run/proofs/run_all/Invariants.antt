use Rattle.run.specs.Names.{lent_of}
use Rattle.bank.specs.InPlace.{IsSpanned}
use Rattle.run.proofs.Going.{Going}
use Rattle.run.proofs.run_all.Given as goal

abbrev pub invariant-loop-i : goal.invariant-loop-i
invariant-loop-i l =
    Going (lent_of l.memories) l.prices l.handed l.calls l.n l.fn.start l.initial.out l.out l.registers l.slots.bank l.pending l.bill l.meters l.ok l.i
    × IsSpanned l.slots
