use Rattle.listing.proofs.Names.{sym, ◌∙◌, arith}
use Rattle.listing.proofs.Columns.{formed-first, formed-bad, formed-more, formed_last}
use Rattle.listing.proofs.printer.all_formed.Goals as goal

pub loop-i-init : goal.loop-i-init
loop-i-init c = formed-first _ _

pub returns-then-not-well_formed : goal.returns-then-not-well_formed
returns-then-not-well_formed c = formed-bad _ _ c.loop-i.i (omega arith) c.loop-i.invariant (sym c.well_formed-in-loop-i.ensures ∙ c.if-not-well_formed.true)

pub loop-i-preserved : goal.loop-i-preserved
loop-i-preserved c = formed-more _ _ c.loop-i.i (omega arith) c.loop-i.invariant (sym c.well_formed-in-loop-i.ensures ∙ c.if-not-well_formed.false)

pub returns : goal.returns
returns c = formed_last _ _ c.loop-i.i (omega arith) c.loop-i.invariant
