use Rattle.audit.specs.Names.{not}
use Rattle.audit.proofs.Names.{le-ltb, lt-ltb, ◌∙◌, ap, sym, pick_no, pick_yes, check_of}
use Rattle.audit.proofs.Inside.{image-ends}
use Rattle.audit.proofs.check.Goals as goal

pub returns-then-not-image_ok : goal.returns-then-not-image_ok
unfolding check_of
returns-then-not-image_ok c = sym (pick_yes _ _ _ (ap not (sym c.image_ok.ensures ∙ c.if-not-image_ok.true)))

pub returns-then-memory-lt64 : goal.returns-then-memory-lt64
unfolding check_of
returns-then-memory-lt64 c = sym (pick_no _ _ _ (ap not (sym c.image_ok.ensures ∙ c.if-not-image_ok.false)) ∙ pick_yes _ _ _ (lt-ltb _ _ c.if-memory-lt64.true))

pub invariant_of-image : goal.invariant_of-image
invariant_of-image c = record { below = image-ends _ _ (sym c.image_ok.ensures ∙ c.if-not-image_ok.false); first = c.if-memory-lt64.false }

pub returns : goal.returns
unfolding check_of
returns c =
    c.check.ensures ∙ sym (pick_no _ _ _ (ap not (sym c.image_ok.ensures ∙ c.if-not-image_ok.false)) ∙ pick_no _ _ _ (le-ltb _ _ c.if-memory-lt64.false))
