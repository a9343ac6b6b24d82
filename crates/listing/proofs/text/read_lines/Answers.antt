use Rattle.std.proofs.Common.{Ok}
use Rattle.listing.proofs.Names.{ap, ◌∙◌, arith}
use Rattle.listing.proofs.Turns.{turn_first, turn_last, line_fits, turn_nothing, turn_mapped, turn_many, turn_bad}
use Rattle.listing.proofs.text.read_lines.Goals as goal

pub loop-at-init : goal.loop-at-init
loop-at-init c = turn_first _ _ _

pub overflow_add-to : goal.overflow_add-to
overflow_add-to c = omega (arith, line_fits c.args.text.now c.loop-at.at c.run.result c.loop-at-test.true c.run.ensures)

pub overflow_add-at : goal.overflow_add-at
overflow_add-at c = omega (arith, line_fits c.args.text.now c.loop-at.at c.run.result c.loop-at-test.true c.run.ensures)

pub slice_bounds-said-end : goal.slice_bounds-said-end
slice_bounds-said-end c = line_fits c.args.text.now c.loop-at.at c.run.result c.loop-at-test.true c.run.ensures

pub loop-at-preserved-in-Ok-None : goal.loop-at-preserved-in-Ok-None
loop-at-preserved-in-Ok-None c =
    turn_nothing _ _ _ _ _ _ _ _ c.loop-at.invariant c.loop-at-test.true _ c.run.ensures _ c.said.ensures (c.in-Ok-None.is ∙ ap Ok c.in-Ok-None.field-0-is)

pub returns-in-Err : goal.returns-in-Err
returns-in-Err c =
    turn_bad _ _ _ _ _ _ _ _ c.loop-at.invariant c.loop-at-test.true _ c.run.ensures _ c.said.ensures _ c.in-Err.is

pub returns-then-n-ge-MOST : goal.returns-then-n-ge-MOST
returns-then-n-ge-MOST c =
    turn_many _ _ _ _ _ _ _ _ c.loop-at.invariant c.loop-at-test.true _ c.run.ensures _ c.said.ensures _ (c.in-Ok-Some.is ∙ ap Ok c.in-Ok-Some.field-0-is) c.if-n-ge-MOST.true

pub loop-at-preserved : goal.loop-at-preserved
loop-at-preserved c =
    turn_mapped _ _ _ _ _ _ _ _ c.loop-at.invariant c.loop-at-test.true _ c.run.ensures _ c.said.ensures _ _ _ (c.in-Ok-Some.is ∙ ap Ok c.in-Ok-Some.field-0-is) c.if-n-ge-MOST.false
    c.record_of.ensures c.put.auto.out c.put.ensures

pub returns : goal.returns
returns c = turn_last _ _ _ _ _ _ _ _ c.loop-at.invariant c.loop-at-test.false
