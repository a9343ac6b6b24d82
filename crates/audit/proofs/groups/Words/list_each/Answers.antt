use Rattle.audit.specs.Names.{◌%◌, ◌+◌, ◌≡◌, ℕ}
use Rattle.audit.proofs.Names.{◌∙◌, ap, refl, subst, arith, taken_at, table_pages, Put}
use Rattle.audit.proofs.Putting.{listable_next, put_next, put_first}
use native.Mathlib.Nat.{mod-one}
use Rattle.audit.proofs.groups.Words.list_each.Goals as goal

pub loop-k-init : goal.loop-k-init
loop-k-init c =
    let x = c.args in
    let t = x.self.now in
    (refl, put_first t.table t.memory.now t.at x.i x.j x.from x.out.now)

pub list_word-at-requires : goal.list_word-at-requires
list_word-at-requires c =
    let x = c.args in
    let t = x.self.now in
    let k = c.loop-k.k in
    let one = c.requires.1 (x.j + k) (omega arith) (omega arith) in (
      listable_next t.table t.memory.now t.at x.i x.j x.n x.from x.out.now c.requires.0 k 1 (x.j + k) _ _ refl (omega arith) c.loop-k.invariant.1,
      (λ s. let e : taken_at t.table t.memory.now t.at (x.j + k) ≡ 1 = omega (arith, one, s) in ap (λ (r : ℕ). (x.j + k) % r) e ∙ mod-one (x.j + k)),
    )

pub loop-k-preserved : goal.loop-k-preserved
loop-k-preserved c =
    let x = c.args in
    let t = x.self.now in
    let v = c.loop-k.invariant in (
      c.list_word-at.auto.out ∙ v.0,
      put_next t.table t.memory.now t.at x.i x.j x.n x.from x.out.now c.requires.0 c.loop-k.k 1 (x.j + c.loop-k.k) _ _ _ _ refl (omega arith) v.1 c.list_word-at.ensures,
    )

pub returns : goal.returns
returns c =
    let x = c.args in
    let t = x.self.now in
    let z : c.loop-k.k ≡ x.n = omega arith in
    subst (λ (k : ℕ). Put (table_pages t.table t.memory.now t.at x.i x.j k) x.from x.out.now c.loop-k.at c.loop-k.out) z c.loop-k.invariant.1
