use Rattle.audit.specs.Names.{ℕ, leb, length, ◌+◌}
use Rattle.audit.proofs.Names.{table_in, sym, ap, ◌∙◌, and_yes, and_no, le-leb, lt-leb}
use Rattle.audit.proofs.images.Image.holds.Goals as goal

pub returns-then-self-at : goal.returns-then-self-at
unfolding table_in
returns-then-self-at c =
    let x = c.args in
    let m = x.self.now in
    ap (λ (n : ℕ). leb (x.at.0 + n) (m.base + length m.memory.now)) c.table_bytes.ensures ∙ sym (and_yes _ _ (le-leb _ _ c.if-self-at.true))

pub returns-else-self-at : goal.returns-else-self-at
unfolding table_in
returns-else-self-at c = let e = lt-leb _ _ c.if-self-at.false in e ∙ sym (and_no _ _ e)
