use Rattle.listing.specs.Names.{ℕ, ◌<◌, length}
use Rattle.listing.proofs.Names.{purpose_of, sym, ◌∙◌, subst, pick_yes, pick_no, or_yes, or_no, eq-eqb, ne_eqb, lt-ltb, le-ltb, arith}
use Rattle.listing.proofs.Comments.{purpose_from, purpose_to, purpose_is}
use Rattle.listing.proofs.Turns.{line_fits}
use Rattle.listing.proofs.purpose.Goals as goal
use Rattle.listing.proofs.purpose.Goals.{then-text-gt-LONGEST-via-then-text-gt-LONGEST, then-text-gt-LONGEST-via-else-text-gt-LONGEST+then-line-eq0}

pub returns-then-text-gt-LONGEST : goal.returns-then-text-gt-LONGEST
unfolding purpose_of
returns-then-text-gt-LONGEST c = elim c.then-text-gt-LONGEST.branch [
  | then-text-gt-LONGEST-via-then-text-gt-LONGEST w ↦ sym (pick_yes _ _ _ (or_yes _ _ (lt-ltb _ _ w.if-text-gt-LONGEST.true)))
  | then-text-gt-LONGEST-via-else-text-gt-LONGEST+then-line-eq0 w ↦
      sym (pick_yes _ _ _ (or_no _ _ (le-ltb _ _ w.if-text-gt-LONGEST.false) ∙ eq-eqb _ _ w.if-line-eq0.true))
]

pub returns-then-at-text : goal.returns-then-at-text
unfolding purpose_of
returns-then-at-text c =
    sym (pick_no _ _ _ (or_no _ _ (le-ltb _ _ c.if-text-gt-LONGEST.false) ∙ ne_eqb _ _ c.if-line-eq0.false)
    ∙ pick_yes _ _ _ (lt-ltb _ _ (subst (λ (n : ℕ). length c.args.text.now < n) c.start_of-at.ensures c.if-at-text.true)))

pub overflow_add-at : goal.overflow_add-at
overflow_add-at c =
    omega (arith, line_fits c.args.text.now c.start_of-at.result c.run-n.result c.if-at-text.false c.run-n.ensures)

pub slice_bounds-comment-end : goal.slice_bounds-comment-end
slice_bounds-comment-end c = line_fits c.args.text.now c.start_of-at.result c.run-n.result c.if-at-text.false c.run-n.ensures

pub overflow_add-result : goal.overflow_add-result
overflow_add-result c =
    omega (arith, c.if-text-gt-LONGEST.false, c.if-at-text.false, purpose_from c.args.text.now c.args.line _ _ c.start_of-at.ensures c.if-at-text.false c.run-n.ensures _ c.comment-s.ensures)

pub overflow_add-result-2 : goal.overflow_add-result-2
overflow_add-result-2 c =
    omega (arith, c.if-text-gt-LONGEST.false, c.if-at-text.false, purpose_to c.args.text.now c.args.line _ _ c.start_of-at.ensures c.if-at-text.false c.run-n.ensures _ c.comment-s.ensures)

pub returns : goal.returns
returns c =
    purpose_is c.args.text.now c.args.line _ _ c.start_of-at.ensures c.if-at-text.false c.run-n.ensures _ c.comment-s.ensures c.if-text-gt-LONGEST.false c.if-line-eq0.false
