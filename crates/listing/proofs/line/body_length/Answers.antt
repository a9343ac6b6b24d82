use Rattle.listing.specs.Names.{◌≡◌, length}
use Rattle.listing.proofs.Names.{body_length, sym, ◌∙◌, arith, pick_yes, pick_no, eq-eqb, ne_eqb}
use Rattle.listing.proofs.Says.{body-empty}
use Rattle.listing.proofs.line.body_length.Goals as goal
use Rattle.listing.proofs.line.body_length.Goals.{else-n-gt0-via-then-n-gt0+else-line-n-eq13, else-n-gt0-via-else-n-gt0}

pub returns-then-line-n-eq13 : goal.returns-then-line-n-eq13
unfolding body_length
returns-then-line-n-eq13 c = sym (pick_yes _ _ _ (eq-eqb _ _ c.if-line-n-eq13.true))

pub returns-else-n-gt0 : goal.returns-else-n-gt0
unfolding body_length
returns-else-n-gt0 c = elim c.else-n-gt0.branch [
  | else-n-gt0-via-then-n-gt0+else-line-n-eq13 w ↦ sym (pick_no _ _ _ (ne_eqb _ _ w.if-line-n-eq13.false))
  | else-n-gt0-via-else-n-gt0 w ↦ (let z : length c.args.line.now ≡ 0 = omega (arith, w.if-n-gt0.false) in z ∙ body-empty _ z)
]
