use Rattle.page.proofs.Picks.{and_is}
use Rattle.bank.proofs.slots.Span.has.Goals as goal

pub returns : goal.returns
returns c = and_is _ _
