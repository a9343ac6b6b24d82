use Rattle.records.specs.Mappings.{byte_of}
use Rattle.records.proofs.Mapping.byte_of.Goals as goal

pub returns : goal.returns
unfolding byte_of
returns c = c.join.ensures
