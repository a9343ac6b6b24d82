use Rattle.listing.proofs.Names.{access_named, sym, ◌∙◌, pick_yes, pick_no}
use Rattle.listing.proofs.tokens.access_named.Goals as goal

pub returns-then-same : goal.returns-then-same
unfolding access_named
returns-then-same c = sym (pick_yes _ _ _ (sym c.same.ensures ∙ c.if-same.true))

pub returns-then-same-2 : goal.returns-then-same-2
unfolding access_named
returns-then-same-2 c =
    sym (pick_no _ _ _ (sym c.same.ensures ∙ c.if-same.false) ∙ pick_yes _ _ _ (sym c.same-else-same.ensures ∙ c.if-same-2.true))

pub returns-else-same-2 : goal.returns-else-same-2
unfolding access_named
returns-else-same-2 c =
    sym (pick_no _ _ _ (sym c.same.ensures ∙ c.if-same.false) ∙ pick_no _ _ _ (sym c.same-else-same.ensures ∙ c.if-same-2.false))
