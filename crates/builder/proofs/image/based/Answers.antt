use Rattle.builder.specs.Names.{ℕ, ◌%◌, ◌^◌}
use Rattle.builder.proofs.Names.{sym, ap, eq-eqb, ne_eqb, pick_yes, pick_no, based}
use Rattle.builder.proofs.image.based.Goals as goal

pub returns-then-w-eq0 : goal.returns-then-w-eq0
unfolding based
returns-then-w-eq0 c = ap (λ (x : ℕ). x % 2 ^ 32) (sym (pick_yes _ _ _ (eq-eqb _ _ c.if-w-eq0.true)))

pub returns-else-w-eq0 : goal.returns-else-w-eq0
unfolding based
returns-else-w-eq0 c = ap (λ (x : ℕ). x % 2 ^ 32) (sym (pick_no _ _ _ (ne_eqb _ _ c.if-w-eq0.false)))
