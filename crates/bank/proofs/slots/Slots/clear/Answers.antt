use Rattle.bank.proofs.Changed.{cleared}
use Rattle.bank.proofs.slots.Slots.clear.Goals as goal

pub returns-clause-ends : goal.returns-clause-ends
returns-clause-ends c = cleared _ c.fresh-self.ensures
