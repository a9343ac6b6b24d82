use Rattle.tables.proofs.Names.{arith}
use Rattle.page.proofs.Slot.{start-room, type_of-lt}
use Rattle.tables.proofs.words.page_word.Goals as goal

pub overflow_add-result : goal.overflow_add-result
overflow_add-result c =
    let m = c.args.m in
    omega (arith, c.page_start.ensures, start-room m.kind m.to.0 (omega arith))

pub overflow_add-result-2 : goal.overflow_add-result-2
overflow_add-result-2 c =
    let m = c.args.m in
    omega (arith, c.type_of.ensures, type_of-lt m.kind, c.page_start.ensures, start-room m.kind m.to.0 (omega arith))
