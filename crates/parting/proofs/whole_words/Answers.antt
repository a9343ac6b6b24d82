use Rattle.page.proofs.Picks.{and_is}
use Rattle.parting.proofs.Names.{whole_words}
use Rattle.parting.proofs.whole_words.Goals as goal

pub returns : goal.returns
unfolding whole_words
returns c = and_is _ _
