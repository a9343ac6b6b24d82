use Rattle.bank.proofs.Names.{sym, eq-eqb, ne_eqb, pick_yes, pick_no}
use Rattle.bank.proofs.slots.Span.kept.Goals as goal

pub returns-then-cam-eq0-clause-low : goal.returns-then-cam-eq0-clause-low
returns-then-cam-eq0-clause-low c = sym (pick_yes _ _ _ (eq-eqb _ _ c.if-cam-eq0.true))

pub returns-then-cam-eq0-clause-high : goal.returns-then-cam-eq0-clause-high
returns-then-cam-eq0-clause-high c = sym (pick_yes _ _ _ (eq-eqb _ _ c.if-cam-eq0.true))

pub returns-clause-low : goal.returns-clause-low
returns-clause-low c = sym (pick_no _ _ _ (ne_eqb _ _ c.if-cam-eq0.false))

pub returns-clause-high : goal.returns-clause-high
returns-clause-high c = sym (pick_no _ _ _ (ne_eqb _ _ c.if-cam-eq0.false))
