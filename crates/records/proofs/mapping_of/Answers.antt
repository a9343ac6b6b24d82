use Rattle.records.proofs.Names.{mapping_of}
use Rattle.records.proofs.mapping_of.Goals as goal

pub returns : goal.returns
unfolding mapping_of
returns c = cc
