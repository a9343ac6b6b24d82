use Rattle.builder.specs.Names.{table_by}
use Rattle.builder.proofs.Names.{sym, ◌∙◌, pick_yes, pick_no}
use Rattle.std.proofs.Common.{true≢false}
use Rattle.page.proofs.Picks.{or_yes, or_no}
use Rattle.builder.proofs.places.table_by.Goals as goal
use Rattle.builder.proofs.places.table_by.Goals.{then-has-2, else-has-2}

pub returns-then-has : goal.returns-then-has
unfolding table_by
returns-then-has c = sym (pick_yes _ _ _ (sym c.has.ensures ∙ c.if-has.true))

pub returns-then-has-3 : goal.returns-then-has-3
unfolding table_by
returns-then-has-3 c =
    sym (pick_no _ _ _ (sym c.has.ensures ∙ c.if-has.false) ∙ pick_yes _ _ _ (elim c.if-has-2.branch [
      | then-has-2 w ↦ or_yes _ _ (sym c.has-else-has.ensures ∙ w.if-has-2.true)
      | else-has-2 w ↦ or_no _ _ (sym c.has-else-has.ensures ∙ w.if-has-2.false) ∙ sym w.has-else-has-2.ensures ∙ sym w.value-is ∙ c.if-has-3.true
    ]))

pub returns-else-has-3 : goal.returns-else-has-3
unfolding table_by
returns-else-has-3 c =
    sym (pick_no _ _ _ (sym c.has.ensures ∙ c.if-has.false) ∙ pick_no _ _ _ (elim c.if-has-2.branch [
      | then-has-2 w ↦ absurd (true≢false (sym w.if-has-2.true ∙ sym w.value-is ∙ c.if-has-3.false))
      | else-has-2 w ↦ or_no _ _ (sym c.has-else-has.ensures ∙ w.if-has-2.false) ∙ sym w.has-else-has-2.ensures ∙ sym w.value-is ∙ c.if-has-3.false
    ]))
