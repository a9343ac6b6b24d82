use Rattle.audit.specs.Names.{Table, ◌^◌, word_bits}
use Rattle.audit.proofs.Names.{sym, ap}
use Rattle.audit.proofs.pages.span.Goals as goal

pub returns-in-Coarse : goal.returns-in-Coarse
returns-in-Coarse c = sym (ap (λ (t : Table). 2 ^ word_bits t) c.in-Coarse.is)

pub returns-in-Fine : goal.returns-in-Fine
returns-in-Fine c = sym (ap (λ (t : Table). 2 ^ word_bits t) c.in-Fine.is)
