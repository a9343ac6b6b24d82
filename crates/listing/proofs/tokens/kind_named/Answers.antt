use Rattle.listing.proofs.Names.{kind_named, sym, ◌∙◌, pick_yes, pick_no}
use Rattle.listing.proofs.tokens.kind_named.Goals as goal

pub returns-then-same : goal.returns-then-same
unfolding kind_named
returns-then-same c = sym (pick_yes _ _ _ (sym c.same.ensures ∙ c.if-same.true))

pub returns-then-same-2 : goal.returns-then-same-2
unfolding kind_named
returns-then-same-2 c =
    sym (pick_no _ _ _ (sym c.same.ensures ∙ c.if-same.false) ∙ pick_yes _ _ _ (sym c.same-else-same.ensures ∙ c.if-same-2.true))

pub returns-then-same-3 : goal.returns-then-same-3
unfolding kind_named
returns-then-same-3 c =
    sym (pick_no _ _ _ (sym c.same.ensures ∙ c.if-same.false) ∙ pick_no _ _ _ (sym c.same-else-same.ensures ∙ c.if-same-2.false) ∙ pick_yes _ _ _ (sym c.same-else-same-2.ensures ∙ c.if-same-3.true))

pub returns-then-same-4 : goal.returns-then-same-4
unfolding kind_named
returns-then-same-4 c =
    sym (pick_no _ _ _ (sym c.same.ensures ∙ c.if-same.false) ∙ pick_no _ _ _ (sym c.same-else-same.ensures ∙ c.if-same-2.false)
    ∙ pick_no _ _ _ (sym c.same-else-same-2.ensures ∙ c.if-same-3.false) ∙ pick_yes _ _ _ (sym c.same-else-same-3.ensures ∙ c.if-same-4.true))

pub returns-else-same-4 : goal.returns-else-same-4
unfolding kind_named
returns-else-same-4 c =
    sym (pick_no _ _ _ (sym c.same.ensures ∙ c.if-same.false) ∙ pick_no _ _ _ (sym c.same-else-same.ensures ∙ c.if-same-2.false)
    ∙ pick_no _ _ _ (sym c.same-else-same-2.ensures ∙ c.if-same-3.false) ∙ pick_no _ _ _ (sym c.same-else-same-3.ensures ∙ c.if-same-4.false))
