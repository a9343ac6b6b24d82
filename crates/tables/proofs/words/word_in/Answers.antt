use Rattle.tables.specs.Names.{ℕ, ◌/◌}
use Rattle.tables.proofs.Names.{ap₂}
use Rattle.tables.proofs.words.word_in.Goals as goal

pub returns : goal.returns
returns c = ap₂ (λ (p q : ℕ). p / q) c.page_start.ensures c.step.ensures
