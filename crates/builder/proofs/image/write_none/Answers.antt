use Rattle.builder.proofs.Nothing.{none-in, none_short-in, none_short, none_written}
use Rattle.builder.proofs.image.write_none.Goals as goal

pub returns-then-out-lt64 : goal.returns-then-out-lt64
returns-then-out-lt64 c =
    let a = c.args in
    (none_short-in a.out.now c.if-out-lt64.true, none_short a.base a.out.now c.if-out-lt64.true)

pub returns : goal.returns
returns c =
    let a = c.args in
    (none-in a.out.now c.if-out-lt64.false, none_written a.base a.out.now _ c.if-out-lt64.false c.write_run.ensures)
