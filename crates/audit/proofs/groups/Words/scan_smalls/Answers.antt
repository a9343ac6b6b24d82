use Rattle.std.proofs.Common.{Ok, Err}
use Rattle.std.proofs.lemmas.Result.{err_from_is_err_and}
use Rattle.audit.specs.Names.{◌+◌, ◌*◌, ◌≤◌, ◌≡◌, ℕ, Table, index_limit}
use Rattle.audit.proofs.Names.{◌∙◌, ap, refl, subst, sym, arith, Grouped, Scanned}
use Rattle.audit.proofs.Scans.{scanned_none, scanned_more, scanned_stop, count_most, small_grouped}
use Rattle.audit.proofs.groups.Words.scan_smalls.Goals as goal

pub loop-g-init : goal.loop-g-init
loop-g-init c = scanned_none _ _ _ _

pub scan_run-requires : goal.scan_run-requires
scan_run-requires c =
    let x = c.args in
    let t = x.self.now in
    let r = c.requires in
    let at : ℕ = x.j + 4 * c.loop-g.g in
    let room : at + 4 ≤ index_limit Table.Fine = omega (arith, r.1) in
    let limit : index_limit Table.Fine ≡ index_limit t.table = ap index_limit (sym r.0) in (
      omega (arith, room, limit),
      subst (λ (u : Table). Grouped u t.memory.now t.at at 4) (sym r.0)
          (small_grouped t.memory.now t.at at (omega (arith, room, limit, t.inside)) (omega (arith, r.2)) (λ y p q. r.3 y (omega arith) (omega arith))),
    )

pub overflow_add-pages : goal.overflow_add-pages
overflow_add-pages c =
    let x = c.args in
    let t = x.self.now in
    let s = subst (Scanned t.table t.memory.now t.at (x.j + 4 * c.loop-g.g) 4) c.in_ok-pages.was c.scan_run.ensures in
    omega (arith, count_most _ _ _ _ _ _ s.1, count_most _ _ _ _ _ _ c.loop-g.invariant.1)

pub loop-g-preserved : goal.loop-g-preserved
loop-g-preserved c =
    let x = c.args in
    let t = x.self.now in
    let g = c.loop-g.g in
    let f = subst (λ (u : Table). Scanned u t.memory.now t.at (x.j + 4 * g) 4 c.scan_run.result) c.requires.0 c.scan_run.ensures in
    let s = subst (Scanned Table.Fine t.memory.now t.at (x.j + 4 * g) 4) c.in_ok-pages.was f in
    subst (λ (m : ℕ). Scanned Table.Fine t.memory.now t.at x.j m (Ok (c.loop-g.pages + c.in_ok-pages.field-0))) (let z : 4 * g + 4 ≡ 4 * (g + 1) = omega arith in z)
    (scanned_more Table.Fine t.memory.now t.at x.j (4 * g) 4 (x.j + 4 * g) _ _ refl c.loop-g.invariant s)

pub returns-in_err-pages : goal.returns-in_err-pages
returns-in_err-pages c =
    let x = c.args in
    let t = x.self.now in
    let g = c.loop-g.g in
    let f = subst (λ (u : Table). Scanned u t.memory.now t.at (x.j + 4 * g) 4 c.scan_run.result) c.requires.0 c.scan_run.ensures in
    let s = subst (Scanned Table.Fine t.memory.now t.at (x.j + 4 * g) 4) c.in_err-pages.was f in
    let p = err_from_is_err_and c.from_residual.result c.from_residual.ensures.1 in
    subst (Scanned Table.Fine t.memory.now t.at x.j 64) (sym (p.1 ∙ ap Err p.2))
    (scanned_stop Table.Fine t.memory.now t.at x.j (4 * g) 4 64 (x.j + 4 * g) _ _ refl (omega arith) c.loop-g.invariant s)

pub returns : goal.returns
returns c =
    let x = c.args in
    let t = x.self.now in
    let z : 4 * c.loop-g.g ≡ 64 = omega arith in
    subst (λ (m : ℕ). Scanned Table.Fine t.memory.now t.at x.j m (Ok c.loop-g.pages)) z c.loop-g.invariant
