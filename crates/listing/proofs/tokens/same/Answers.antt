use Rattle.listing.proofs.Names.{◌∙◌}
use Rattle.listing.proofs.Runs.{same_is}
use Rattle.listing.proofs.tokens.same.Goals as goal

pub returns : goal.returns
returns c = c.eq.ensures ∙ same_is _ _
