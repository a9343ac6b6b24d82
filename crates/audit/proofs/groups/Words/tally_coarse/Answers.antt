use Rattle.audit.specs.Names.{◌%◌, ◌+◌, ◌/◌, ◌≡◌, ◌≤◌, ℕ, second_of, Table}
use Rattle.audit.proofs.Names.{◌∙◌, ap, subst, sym, arith, taken, taken_at, InRun, PageCount}
use Rattle.audit.proofs.Scans.{tally-none, tally-more}
use Rattle.audit.proofs.Sizes.{coarse_single, or_clear, limit-few}
use Rattle.audit.proofs.groups.Words.tally_coarse.Goals as goal

pub loop-k-init : goal.loop-k-init
loop-k-init c = (omega arith, λ _. tally-none Table.Coarse _ _ _)

pub overflow_add-pages : goal.overflow_add-pages
overflow_add-pages c = omega (arith, c.loop-k.invariant.0, limit-few c.args.self.now.table)

pub loop-k-preserved : goal.loop-k-preserved
loop-k-preserved c =
    let x = c.args in
    let t = x.self.now in
    let i = c.loop-k.invariant in (
      omega (arith, i.0),
      (λ e.
          let b = or_clear 0 1 c.loop-k.bits c.word-w.result (omega (arith, e)) in
          tally-more Table.Coarse t.memory.now t.at x.j c.loop-k.k c.loop-k.pages _ (i.1 (omega (arith, b.0)))
          (ap (λ (w : ℕ). taken Table.Coarse (second_of Table.Coarse w)) (sym c.word-w.ensures) ∙ coarse_single c.word-w.result (omega (arith, b.1))) (omega arith)),
    )

pub returns-else-bits-eq1 : goal.returns-else-bits-eq1
returns-else-bits-eq1 c =
    let x = c.args in
    let t = x.self.now in
    let z : c.loop-k.k ≡ x.n = omega arith in
    subst (λ (k : ℕ). InRun x.j k (λ (y : ℕ). taken_at Table.Coarse t.memory.now t.at y ≤ 1) × PageCount Table.Coarse t.memory.now t.at x.j k c.loop-k.pages) z
    (c.loop-k.invariant.1 (omega arith))
