use Rattle.std.proofs.Common.{Ok, Err}
use Rattle.std.proofs.lemmas.Result.{err_from_is_err_and}
use Rattle.audit.specs.Names.{◌≡◌, ◌+◌, ◌*◌, ◌≤◌, ℕ, repeats, index_limit, Large}
use Rattle.audit.proofs.Names.{◌∙◌, ap, subst, sym, arith, Scanned}
use Rattle.audit.proofs.Sizes.{group_few, group_room, group_all, limit-few}
use Rattle.audit.proofs.Scans.{scanned_none, scanned_more, scanned_stop, count_most, groups_next}
use Rattle.audit.proofs.groups.Words.scan.Goals as goal

pub loop-g-init : goal.loop-g-init
loop-g-init c =
    let t = c.args.self.now in
    subst (λ (n : ℕ). Scanned t.table t.memory.now t.at 0 n (Ok 0)) (let z : 0 ≡ 0 * c.group-n.result = omega arith in z) (scanned_none t.table t.memory.now t.at 0)

pub overflow_add-pages : goal.overflow_add-pages
overflow_add-pages c =
    let t = c.args.self.now in
    let s = subst (Scanned t.table t.memory.now t.at (c.loop-g.g * c.group-n.result) (repeats t.table Large)) c.in_ok-pages.was c.scan_group.ensures in
    let r : c.loop-g.g * c.group-n.result + c.group-n.result ≤ index_limit t.table =
    subst (λ (m : ℕ). c.loop-g.g * m + m ≤ index_limit t.table) (sym c.group-n.ensures) (group_room t.table c.loop-g.g (omega arith)) in
    omega (arith, count_most _ _ _ _ _ _ s.1, count_most _ _ _ _ _ _ c.loop-g.invariant.1, r, group_few t.table, c.group-n.ensures, limit-few t.table)

pub loop-g-preserved : goal.loop-g-preserved
loop-g-preserved c =
    let t = c.args.self.now in
    let g = c.loop-g.g in
    let n = c.group-n.result in
    let s = subst (Scanned t.table t.memory.now t.at (g * n) (repeats t.table Large)) c.in_ok-pages.was c.scan_group.ensures in
    subst (λ (m : ℕ). Scanned t.table t.memory.now t.at 0 m (Ok (c.loop-g.pages + c.in_ok-pages.field-0))) (groups_next g n)
    (scanned_more t.table t.memory.now t.at 0 (g * n) n (g * n) _ _ (omega arith) c.loop-g.invariant
    (subst (λ (m : ℕ). Scanned t.table t.memory.now t.at (g * n) m (Ok c.in_ok-pages.field-0)) (sym c.group-n.ensures) s))

pub returns-in_err-pages : goal.returns-in_err-pages
returns-in_err-pages c =
    let t = c.args.self.now in
    let g = c.loop-g.g in
    let n = c.group-n.result in
    let s = subst (Scanned t.table t.memory.now t.at (g * n) (repeats t.table Large)) c.in_err-pages.was c.scan_group.ensures in
    let r : g * n + repeats t.table Large ≤ index_limit t.table = subst (λ (m : ℕ). g * m + repeats t.table Large ≤ index_limit t.table) (sym c.group-n.ensures) (group_room t.table g (omega arith)) in
    let p = err_from_is_err_and c.from_residual.result c.from_residual.ensures.1 in
    subst (Scanned t.table t.memory.now t.at 0 (index_limit t.table)) (sym (p.1 ∙ ap Err p.2))
    (scanned_stop t.table t.memory.now t.at 0 (g * n) (repeats t.table Large) (index_limit t.table) (g * n) _ _ (omega arith) r c.loop-g.invariant s)

pub returns : goal.returns
returns c =
    let t = c.args.self.now in
    let z : c.loop-g.g ≡ 16 = omega arith in
    subst (λ (m : ℕ). Scanned t.table t.memory.now t.at 0 m (Ok c.loop-g.pages)) (ap (λ (m : ℕ). m * c.group-n.result) z ∙ ap (λ (m : ℕ). 16 * m) c.group-n.ensures ∙ group_all t.table) c.loop-g.invariant
