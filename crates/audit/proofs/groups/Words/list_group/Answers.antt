use Rattle.audit.specs.Names.{◌≤◌, ◌≡◌, ◌%◌, ℕ, length, Table, repeats, Large}
use Rattle.audit.proofs.Names.{◌∙◌, ap, subst, sym, arith, table_pages, taken_at, InRun, Listable}
use Rattle.audit.proofs.Sizes.{group_some}
use Rattle.audit.proofs.Putting.{put_none, put_same, put_first, listable_next, vacant_pages, group_listed, group_singles, coarse_listable, no_large}
use Rattle.audit.proofs.groups.Words.list_group.Goals as goal

pub list_word-requires : goal.list_word-requires
list_word-requires c =
    let x = c.args in
    let t = x.self.now in
    let e : taken_at t.table t.memory.now t.at x.j ≡ repeats t.table Large = sym c.taken.ensures ∙ c.if-taken-n.true ∙ c.group-n.ensures in (
      listable_next t.table t.memory.now t.at x.i x.j (repeats t.table Large) x.from x.out.now c.requires.0 0 1 x.j x.from x.out.now (omega arith)
          (omega (arith, group_some t.table)) (put_first t.table t.memory.now t.at x.i x.j x.from x.out.now),
      (λ _. ap (λ (r : ℕ). x.j % r) e ∙ c.requires.1),
    )

pub returns-then-taken-n : goal.returns-then-taken-n
returns-then-taken-n c =
    let x = c.args in
    let t = x.self.now in
    let e : taken_at t.table t.memory.now t.at x.j ≡ repeats t.table Large = sym c.taken.ensures ∙ c.if-taken-n.true ∙ c.group-n.ensures in
    put_same _ _ x.from _ x.out.now _
    (sym (group_listed t.table t.memory.now t.at x.i x.j (repeats t.table Large) (group_some t.table) c.requires.1 c.requires.0.unbroken e)) c.list_word.ensures

pub returns-then-vacant : goal.returns-then-vacant
returns-then-vacant c =
    let x = c.args in
    let t = x.self.now in
    put_same _ _ x.from x.from x.out.now x.out.now
    (sym (ap (table_pages t.table t.memory.now t.at x.i x.j) (sym c.group-n.ensures) ∙ vacant_pages t.table t.memory.now t.at x.i x.j c.group-n.result (c.vacant.ensures c.if-vacant.true)))
    (put_none x.from x.out.now)

pub list_each-requires : goal.list_each-requires
list_each-requires c =
    let x = c.args in
    let t = x.self.now in
    let l = t.memory.now in
    let room = length x.out.now in
    let e = c.in-Coarse.is in
    let r = subst (λ (u : Table). Listable u l t.at x.i x.j (repeats u Large) x.from room × (x.j % repeats u Large ≡ 0)) e c.requires in
    let odd = subst (λ (u : Table). taken_at u l t.at x.j ≡ repeats u Large → ⊥) e (λ f. c.if-taken-n.false (c.taken.ensures ∙ f ∙ sym c.group-n.ensures)) in
    let g = coarse_listable l t.at x.i x.j x.from room r.1 r.0 in
    subst (λ (u : Table). Listable u l t.at x.i x.j 16 x.from room × InRun x.j 16 (λ (k : ℕ). taken_at u l t.at k ≤ 1)) (sym e)
    (r.0, group_singles Table.Coarse l t.at x.i x.j 16 x.from room g odd)

pub list_smalls-requires : goal.list_smalls-requires
list_smalls-requires c =
    let x = c.args in
    let t = x.self.now in
    let l = t.memory.now in
    let room = length x.out.now in
    let e = c.in-Fine.is in
    let r = subst (λ (u : Table). Listable u l t.at x.i x.j (repeats u Large) x.from room × (x.j % repeats u Large ≡ 0)) e c.requires in
    let odd = subst (λ (u : Table). taken_at u l t.at x.j ≡ repeats u Large → ⊥) e (λ f. c.if-taken-n.false (c.taken.ensures ∙ f ∙ sym c.group-n.ensures)) in
    (e, r.0, r.1, no_large l t.at x.i x.j r.1 r.0.unbroken odd)
