use Rattle.listing.proofs.Names.{refl, sym, ◌∙◌, arith}
use Rattle.listing.proofs.Comments.{solid_stop, solid_more, solid_none}
use Rattle.listing.proofs.notes.solid_to.Goals as goal

pub loop-n-init : goal.loop-n-init
loop-n-init c = (omega arith, refl)

pub returns-then-not-blank : goal.returns-then-not-blank
returns-then-not-blank c =
    (omega arith) ∙ solid_stop _ c.loop-n.n (omega arith) c.loop-n.invariant (sym c.blank.ensures ∙ c.if-not-blank.true)

pub loop-n-preserved : goal.loop-n-preserved
loop-n-preserved c = solid_more _ c.loop-n.n (omega arith) c.loop-n.invariant (sym c.blank.ensures ∙ c.if-not-blank.false)

pub returns : goal.returns
returns c = solid_none _ c.loop-n.n (omega arith) c.loop-n.invariant
