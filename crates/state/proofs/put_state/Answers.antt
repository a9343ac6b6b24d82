use Rattle.state.specs.Names.{length, ◌+◌}
use Rattle.state.proofs.Names.{sym, ◌∙◌}
use borrow.Author.Tests.{leb-true, leb-false}
use Rattle.state.proofs.Parts.{state_fits, state_unfit}
use Rattle.state.proofs.put_state.Goals as goal

pub put_all-requires : goal.put_all-requires
put_all-requires c = let x = c.args in leb-true (x.at + 328) (length x.out.now) (sym c.room.ensures ∙ c.if-room.true)

pub returns-then-room : goal.returns-then-room
returns-then-room c =
    let x = c.args in c.put_all.ensures ∙ sym (state_fits x.out.now x.at x.handed x.b (leb-true (x.at + 328) (length x.out.now) (sym c.room.ensures ∙ c.if-room.true)))

pub returns-else-room : goal.returns-else-room
returns-else-room c =
    let x = c.args in sym (state_unfit x.out.now x.at x.handed x.b (leb-false (x.at + 328) (length x.out.now) (sym c.room.ensures ∙ c.if-room.false)))
