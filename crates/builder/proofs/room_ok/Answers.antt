use Rattle.builder.proofs.Names.{room_ok, sym, ◌∙◌, and_yes, and_no, eq-eqb, ne_eqb}
use Rattle.builder.proofs.room_ok.Goals as goal

pub returns-then-base-eq0 : goal.returns-then-base-eq0
unfolding room_ok
returns-then-base-eq0 c = c.memory_ok.ensures ∙ sym (and_yes _ _ (eq-eqb _ _ c.if-base-eq0.true))

pub returns-else-base-eq0 : goal.returns-else-base-eq0
unfolding room_ok
returns-else-base-eq0 c = ne_eqb _ _ c.if-base-eq0.false ∙ sym (and_no _ _ (ne_eqb _ _ c.if-base-eq0.false))
