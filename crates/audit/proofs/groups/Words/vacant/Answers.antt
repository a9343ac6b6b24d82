use Rattle.audit.specs.Names.{◌%◌, ◌+◌, ◌≡◌, ℕ}
use Rattle.audit.proofs.Names.{eqb-true, ◌∙◌, ap, sym, arith, table_word}
use Rattle.audit.proofs.Scans.{in_both}
use Rattle.audit.proofs.Sizes.{or_clear}
use Rattle.audit.proofs.groups.Words.vacant.Goals as goal

pub loop-k-init : goal.loop-k-init
loop-k-init c _ i p q = absurd (omega arith)

pub loop-k-preserved : goal.loop-k-preserved
loop-k-preserved c e =
    let x = c.args in
    let t = x.self.now in
    let b = or_clear 0 2 c.loop-k.bits c.word-bits.result (omega (arith, e)) in
    in_both (λ (y : ℕ). table_word t.memory.now t.at y % 4 ≡ 0) x.j c.loop-k.k 1 (c.loop-k.invariant (omega (arith, b.0)))
    (λ y p q.
    let z : x.j + c.loop-k.k ≡ y = omega arith in
    ap (λ (v : ℕ). table_word t.memory.now t.at v % 4) (sym z) ∙ ap (λ (w : ℕ). w % 4) (sym c.word-bits.ensures) ∙ (let u : c.word-bits.result % 4 ≡ 0 = omega (arith, b.1) in u))

pub returns : goal.returns
returns c e k p q = c.loop-k.invariant (eqb-true _ _ e) k p (omega arith)
