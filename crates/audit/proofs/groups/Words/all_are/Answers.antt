use Rattle.audit.specs.Names.{◌+◌, ◌-◌, ◌≡◌, ℕ}
use Rattle.audit.proofs.Names.{◌∙◌, ap, ap₂, arith, all_are}
use Rattle.audit.proofs.Equal.{all_turn, all_end}
use Rattle.audit.proofs.groups.Words.all_are.Goals as goal

pub loop-k-init : goal.loop-k-init
loop-k-init c =
    let x = c.args in
    ap₂ (all_are x.self.now.memory.now x.self.now.at _) (let e : x.j ≡ x.j + 0 = omega arith in e) (let e : x.n ≡ x.n - 0 = omega arith in e)

pub loop-k-preserved : goal.loop-k-preserved
loop-k-preserved c =
    let x = c.args in
    let t = x.self.now in
    c.loop-k.invariant ∙ all_turn t.memory.now t.at _ x.j x.n c.loop-k.k c.loop-k.same _ (omega arith) c.word.ensures

pub returns : goal.returns
returns c =
    let x = c.args in
    let t = x.self.now in
    all_end t.memory.now t.at _ x.j x.n c.loop-k.k c.loop-k.same (omega arith) c.loop-k.invariant
    ∙ ap (λ (w : ℕ). all_are t.memory.now t.at w x.j x.n) c.word-w.ensures
