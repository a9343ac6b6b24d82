use Rattle.std.proofs.Common.{Ok, Err}
use Rattle.audit.specs.Names.{◌≤◌, ◌≡◌, ◌+◌, ◌*◌, ◌%◌, ℕ, length, Table, index_limit, repeats, Large}
use Rattle.audit.proofs.Names.{◌∙◌, ap, subst, sym, arith, BrokenOver, Scanned, Tallied, table_word, taken_at}
use Rattle.audit.proofs.Sizes.{group_some}
use Rattle.audit.proofs.Equal.{all_at}
use Rattle.audit.proofs.Scans.{scanned_group, scanned_singles, broken_head, singles_broken, coarse_grouped, large_broken}
use Rattle.audit.proofs.groups.Words.scan_group.Goals as goal

pub returns-then-all_are : goal.returns-then-all_are
returns-then-all_are c =
    let x = c.args in
    let t = x.self.now in
    let n = c.group-n in
    let e : taken_at t.table t.memory.now t.at x.j ≡ n.result = sym c.taken.ensures ∙ c.if-taken-n.true in
    subst (λ (m : ℕ). Scanned t.table t.memory.now t.at x.j m (Ok 1)) n.ensures
    (scanned_group t.table t.memory.now t.at x.j n.result (omega (arith, n.ensures, group_some t.table)) (ap (λ (m : ℕ). x.j % m) n.ensures ∙ c.requires.1) e
    (all_at t.memory.now t.at (table_word t.memory.now t.at x.j) n.result x.j (sym c.all_are.ensures ∙ c.if-all_are.true)))

pub returns-else-all_are : goal.returns-else-all_are
returns-else-all_are c =
    let x = c.args in
    let t = x.self.now in
    let n = c.group-n in
    let e : taken_at t.table t.memory.now t.at x.j ≡ n.result = sym c.taken.ensures ∙ c.if-taken-n.true in
    subst (λ (m : ℕ). Scanned t.table t.memory.now t.at x.j m (Err x.j)) n.ensures
    (broken_head t.table t.memory.now t.at x.j n.result (omega (arith, n.ensures, group_some t.table)) (ap (λ (m : ℕ). x.j % m) n.ensures ∙ c.requires.1) e
    (sym c.all_are.ensures ∙ c.if-all_are.false))

pub returns-in-Some : goal.returns-in-Some
returns-in-Some c =
    let x = c.args in
    let t = x.self.now in
    let s = subst (Tallied t.table t.memory.now t.at x.j c.group-n.result) c.in-Some.is c.tally.ensures in
    subst (λ (n : ℕ). Scanned t.table t.memory.now t.at x.j n (Ok c.in-Some.pages)) c.group-n.ensures
    (scanned_singles t.table t.memory.now t.at x.j c.group-n.result c.in-Some.pages s.0 s.1)

pub scan_each-requires : goal.scan_each-requires
scan_each-requires c =
    let x = c.args in
    let t = x.self.now in
    let l = t.memory.now in
    let e = c.in-Coarse.is in
    let r = subst (λ (u : Table). (x.j + repeats u Large ≤ index_limit u) × (x.j % repeats u Large ≡ 0)) e c.requires in
    let odd = subst (λ (u : Table). taken_at u l t.at x.j ≡ repeats u Large → ⊥) e (λ f. c.if-taken-n.false (c.taken.ensures ∙ f ∙ sym c.group-n.ensures)) in
    let inside = subst (λ (u : Table). t.at + 4 * index_limit u ≤ length l) e t.inside in
    subst (λ (u : Table). (x.j + 16 ≤ index_limit u) × BrokenOver u l t.at x.j 16 1) (sym e)
    (r.0, singles_broken Table.Coarse l t.at x.j 16 (coarse_grouped l t.at x.j (omega (arith, inside, r.0)) r.1) odd)

pub scan_smalls-requires : goal.scan_smalls-requires
scan_smalls-requires c =
    let x = c.args in
    let t = x.self.now in
    let l = t.memory.now in
    let e = c.in-Fine.is in
    let r = subst (λ (u : Table). (x.j + repeats u Large ≤ index_limit u) × (x.j % repeats u Large ≡ 0)) e c.requires in
    let odd = subst (λ (u : Table). taken_at u l t.at x.j ≡ repeats u Large → ⊥) e (λ f. c.if-taken-n.false (c.taken.ensures ∙ f ∙ sym c.group-n.ensures)) in
    (e, r.0, r.1, large_broken l t.at x.j r.1 odd)
