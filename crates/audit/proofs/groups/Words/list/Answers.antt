use Rattle.audit.specs.Names.{◌≡◌, ◌≤◌, ◌+◌, ◌*◌, ◌%◌, ℕ, repeats, Large, index_limit}
use Rattle.audit.proofs.Names.{◌∙◌, ap, refl, subst, sym, arith, table_pages, Put}
use native.Mathlib.Nat.{mul-mod_left}
use Rattle.audit.proofs.Sizes.{group_room, group_all}
use Rattle.audit.proofs.Scans.{groups_next}
use Rattle.audit.proofs.Putting.{put_first, put_next, listable_next}
use Rattle.audit.proofs.groups.Words.list.Goals as goal

pub loop-g-init : goal.loop-g-init
loop-g-init c =
    let x = c.args in
    let t = x.self.now in (
      refl,
      subst (λ (n : ℕ). Put (table_pages t.table t.memory.now t.at x.i 0 n) x.from x.out.now x.from x.out.now) (let z : 0 ≡ 0 * c.group-n.result = omega arith in z)
          (put_first t.table t.memory.now t.at x.i 0 x.from x.out.now),
    )

pub list_group-at-requires : goal.list_group-at-requires
list_group-at-requires c =
    let x = c.args in
    let t = x.self.now in
    let g = c.loop-g.g in
    let n = c.group-n.result in
    let r : g * n + repeats t.table Large ≤ index_limit t.table = subst (λ (m : ℕ). g * m + repeats t.table Large ≤ index_limit t.table) (sym c.group-n.ensures) (group_room t.table g (omega arith)) in (
      listable_next t.table t.memory.now t.at x.i 0 (index_limit t.table) x.from x.out.now c.requires (g * n) (repeats t.table Large) (g * n) _ _ (omega arith) r c.loop-g.invariant.1,
      ap (λ (m : ℕ). g * n % m) (sym c.group-n.ensures) ∙ mul-mod_left g n,
    )

pub loop-g-preserved : goal.loop-g-preserved
loop-g-preserved c =
    let x = c.args in
    let t = x.self.now in
    let g = c.loop-g.g in
    let n = c.group-n.result in
    let r : g * n + n ≤ index_limit t.table = subst (λ (m : ℕ). g * m + m ≤ index_limit t.table) (sym c.group-n.ensures) (group_room t.table g (omega arith)) in (
      c.list_group-at.auto.out ∙ c.loop-g.invariant.0,
      subst (λ (m : ℕ). Put (table_pages t.table t.memory.now t.at x.i 0 m) x.from x.out.now c.list_group-at.result c.list_group-at.new.out) (groups_next g n)
          (put_next t.table t.memory.now t.at x.i 0 (index_limit t.table) x.from x.out.now c.requires (g * n) n (g * n) _ _ _ _ (omega arith) r c.loop-g.invariant.1
          (subst (λ (m : ℕ). Put (table_pages t.table t.memory.now t.at x.i (g * n) m) c.loop-g.at c.loop-g.out c.list_group-at.result c.list_group-at.new.out) (sym c.group-n.ensures) c.list_group-at.ensures)),
    )

pub returns : goal.returns
returns c =
    let x = c.args in
    let t = x.self.now in
    let z : c.loop-g.g ≡ 16 = omega arith in
    subst (λ (m : ℕ). Put (table_pages t.table t.memory.now t.at x.i 0 m) x.from x.out.now c.loop-g.at c.loop-g.out)
    (ap (λ (m : ℕ). m * c.group-n.result) z ∙ ap (λ (m : ℕ). 16 * m) c.group-n.ensures ∙ group_all t.table) c.loop-g.invariant.1
