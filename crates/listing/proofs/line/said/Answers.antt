use Rattle.listing.specs.Names.{ℕ, ◌<◌}
use Rattle.listing.proofs.Names.{parsed, sym, subst, pick_yes, lt-ltb, arith}
use Rattle.listing.proofs.Says.{body_fits, plain_in, said_short}
use Rattle.listing.proofs.line.said.Goals as goal

pub returns-then-n-gt-LONGEST : goal.returns-then-n-gt-LONGEST
unfolding parsed
returns-then-n-gt-LONGEST c =
    sym (pick_yes _ _ _ (lt-ltb _ _ (subst (λ (n : ℕ). 200 < n) c.body_length-n.ensures c.if-n-gt-LONGEST.true)))

pub slice_bounds-run-end : goal.slice_bounds-run-end
slice_bounds-run-end c = omega (arith, body_fits c.args.line.now, c.body_length-n.ensures)

pub slice_bounds-from_kind-end : goal.slice_bounds-from_kind-end
slice_bounds-from_kind-end c = plain_in c.args.line.now _ _ c.body_length-n.ensures c.run-c.ensures

pub returns : goal.returns
returns c =
    said_short c.args.line.now _ _ c.body_length-n.ensures c.run-c.ensures _ c.if-n-gt-LONGEST.false c.from_kind.ensures
