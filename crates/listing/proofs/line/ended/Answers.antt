use Rattle.listing.proofs.Names.{line_ended, sym, ◌∙◌, pick_yes, pick_no, eq-eqb, ne_eqb}
use Rattle.listing.proofs.line.ended.Goals as goal

pub returns-then-run-line : goal.returns-then-run-line
unfolding line_ended
returns-then-run-line c = sym (pick_yes _ _ _ (eq-eqb _ _ (sym c.run.ensures ∙ c.if-run-line.true)))

pub returns-else-run-line : goal.returns-else-run-line
unfolding line_ended
returns-else-run-line c = sym (pick_no _ _ _ (ne_eqb _ _ (λ e. c.if-run-line.false (c.run.ensures ∙ e))))
