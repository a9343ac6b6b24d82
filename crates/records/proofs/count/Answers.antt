use Rattle.records.proofs.Names.{sym}
use Rattle.records.proofs.Listed.{mappings-length}
use Rattle.records.proofs.count.Goals as goal

pub returns : goal.returns
returns c = sym (mappings-length _)
