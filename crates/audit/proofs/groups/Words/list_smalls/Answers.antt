use Rattle.audit.specs.Names.{◌+◌, ◌*◌, ◌≡◌, ℕ, Table, length}
use Rattle.audit.proofs.Names.{◌∙◌, refl, subst, sym, arith, table_pages, GroupListable, Put}
use Rattle.audit.proofs.Putting.{listable_next, put_next, put_first, small_listable}
use Rattle.audit.proofs.groups.Words.list_smalls.Goals as goal

pub loop-g-init : goal.loop-g-init
loop-g-init c =
    let x = c.args in
    let t = x.self.now in
    (refl, put_first Table.Fine t.memory.now t.at x.i x.j x.from x.out.now)

pub list_run-at-requires : goal.list_run-at-requires
list_run-at-requires c =
    let x = c.args in
    let t = x.self.now in
    let r = c.requires in
    let g = c.loop-g.g in
    let at : ℕ = x.j + 4 * g in
    subst (λ (u : Table). GroupListable u t.memory.now t.at x.i at 4 c.loop-g.at (length c.loop-g.out)) (sym r.0)
    (small_listable t.memory.now t.at x.i at _ _ (omega (arith, r.2)) (λ y p q. r.3 y (omega arith) (omega arith))
    (listable_next Table.Fine t.memory.now t.at x.i x.j 64 x.from x.out.now r.1 (4 * g) 4 at _ _ refl (omega arith) c.loop-g.invariant.1))

pub loop-g-preserved : goal.loop-g-preserved
loop-g-preserved c =
    let x = c.args in
    let t = x.self.now in
    let r = c.requires in
    let g = c.loop-g.g in
    let at : ℕ = x.j + 4 * g in (
      c.list_run-at.auto.out ∙ c.loop-g.invariant.0,
      subst (λ (m : ℕ). Put (table_pages Table.Fine t.memory.now t.at x.i x.j m) x.from x.out.now c.list_run-at.result c.list_run-at.new.out) (let z : 4 * g + 4 ≡ 4 * (g + 1) = omega arith in z)
          (put_next Table.Fine t.memory.now t.at x.i x.j 64 x.from x.out.now r.1 (4 * g) 4 at _ _ _ _ refl (omega arith) c.loop-g.invariant.1
          (subst (λ (u : Table). Put (table_pages u t.memory.now t.at x.i at 4) c.loop-g.at c.loop-g.out c.list_run-at.result c.list_run-at.new.out) r.0 c.list_run-at.ensures)),
    )

pub returns : goal.returns
returns c =
    let x = c.args in
    let t = x.self.now in
    let z : 4 * c.loop-g.g ≡ 64 = omega arith in
    subst (λ (m : ℕ). Put (table_pages Table.Fine t.memory.now t.at x.i x.j m) x.from x.out.now c.loop-g.at c.loop-g.out) z c.loop-g.invariant.1
