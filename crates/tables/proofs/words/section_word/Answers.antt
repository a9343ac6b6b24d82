use Rattle.tables.specs.Names.{upper}
use Rattle.tables.proofs.Names.{arith}
use Rattle.tables.proofs.words.section_word.Goals as goal

pub overflow_add-result : goal.overflow_add-result
unfolding upper
overflow_add-result c = omega (arith, c.page_start.ensures)

pub overflow_add-result-2 : goal.overflow_add-result-2
unfolding upper
overflow_add-result-2 c = omega (arith, c.page_start.ensures)
