use Rattle.recording.proofs.Names.{◌∙◌}
use Rattle.recording.proofs.Judged.{taken_many, taken_short, taken-behind, taken_judged}
use Rattle.recording.proofs.reader.take_by.Goals as goal

pub returns-then-p-ge-MOST : goal.returns-then-p-ge-MOST
returns-then-p-ge-MOST c = taken_many c.args.p c.args.block.now c.if-p-ge-MOST.true

pub returns-then-block-ne-BLOCK : goal.returns-then-block-ne-BLOCK
returns-then-block-ne-BLOCK c = taken_short c.args.p c.args.block.now c.if-p-ge-MOST.false c.if-block-ne-BLOCK.true

pub returns-then-p : goal.returns-then-p
returns-then-p c =
    let x = c.args in taken-behind x.p x.block.now c.if-p-ge-MOST.false c.if-block-ne-BLOCK.false c.if-p.true

pub judge-requires : goal.judge-requires
judge-requires c =
    record { laid = c.requires; long = c.if-block-ne-BLOCK.false; few = c.if-p-ge-MOST.false; full = c.if-p.false }

pub returns : goal.returns
returns c =
    let x = c.args in c.judge.ensures ∙ taken_judged x.p x.block.now c.if-p-ge-MOST.false c.if-block-ne-BLOCK.false c.if-p.false
