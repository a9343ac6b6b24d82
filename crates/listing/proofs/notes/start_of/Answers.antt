use Rattle.listing.specs.Names.{◌≡◌, ◌+◌, ℕ}
use Rattle.listing.proofs.Names.{subst, arith}
use Rattle.listing.proofs.Turns.{line_fits}
use Rattle.listing.proofs.Comments.{Started, started-first, started_none, started-more, started_last}
use Rattle.listing.proofs.notes.start_of.Goals as goal

pub loop-init : goal.loop-init
loop-init c = (omega arith, started-first _ _)

pub overflow_add-at : goal.overflow_add-at
overflow_add-at c = omega (arith, line_fits c.args.text.now c.loop.at c.run-r.result c.loop.invariant.0 c.run-r.ensures)

pub returns-then-at-r : goal.returns-then-at-r
returns-then-at-r c = started_none _ _ c.loop.at c.loop.counter _ (omega arith) c.loop.invariant.0 c.run-r.ensures c.loop.invariant.1 c.if-at-r.true

pub loop-preserved : goal.loop-preserved
loop-preserved c = (
  omega (arith, c.if-at-r.false),
  subst (λ (n : ℕ). Started c.args.text.now c.args.k n (c.loop.counter + 1))
      (let z : c.loop.at + c.run-r.result + 1 ≡ c.loop.at + (c.run-r.result + 1) = omega arith in z)
      (started-more _ _ c.loop.at c.loop.counter _ (omega arith) c.loop.invariant.0 c.run-r.ensures c.loop.invariant.1 c.if-at-r.false),
)

pub returns : goal.returns
returns c = started_last _ _ c.loop.at c.loop.counter (omega arith) c.loop.invariant.1
