use Rattle.std.proofs.Common.{Ok}
use Rattle.audit.specs.Names.{◌+◌, ◌<◌, ◌≡◌, ℕ}
use Rattle.audit.proofs.Names.{refl, subst, sym, arith, Scanned}
use Rattle.audit.proofs.Sizes.{limit-few}
use Rattle.audit.proofs.Scans.{scanned_none, scanned_more, scanned_word, count_most}
use Rattle.audit.proofs.groups.Words.scan_each.Goals as goal

pub loop-k-init : goal.loop-k-init
loop-k-init c = scanned_none _ _ _ _

pub returns-then-r-gt1 : goal.returns-then-r-gt1
returns-then-r-gt1 c =
    let x = c.args in
    let i = c.loop-k.invariant in (
      omega arith,
      omega arith,
      (λ k p q. i.0 k p (omega arith)),
      c.requires.1 (x.j + c.loop-k.k) (omega arith) (omega arith) (subst (λ (r : ℕ). 1 < r) c.taken-r.ensures c.if-r-gt1.true),
    )

pub overflow_add-pages : goal.overflow_add-pages
overflow_add-pages c = omega (arith, count_most _ _ _ _ _ _ c.loop-k.invariant.1, c.requires.0, limit-few c.args.self.now.table)

pub loop-k-preserved : goal.loop-k-preserved
loop-k-preserved c =
    let x = c.args in
    let t = x.self.now in
    let k = c.loop-k.k in
    let e = c.taken-r.ensures in
    subst (λ (r : ℕ). Scanned t.table t.memory.now t.at x.j (k + 1) (Ok (c.loop-k.pages + r))) (sym e)
    (scanned_more t.table t.memory.now t.at x.j k 1 _ c.loop-k.pages _ refl c.loop-k.invariant
    (scanned_word t.table t.memory.now t.at (x.j + k) (omega (arith, e, c.if-r-gt1.false))))

pub returns : goal.returns
returns c =
    let x = c.args in
    let t = x.self.now in
    let z : c.loop-k.k ≡ x.n = omega arith in
    subst (λ (k : ℕ). Scanned t.table t.memory.now t.at x.j k (Ok c.loop-k.pages)) z c.loop-k.invariant
