use Rattle.page.proofs.Slot.{matches-apart}
use Rattle.page.proofs.matches.Goals as goal

pub returns : goal.returns
returns c = matches-apart _ _ _ _ _ c.valid.ensures c.kind_of.ensures c.reach.ensures
