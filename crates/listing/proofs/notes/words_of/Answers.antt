use Rattle.listing.specs.Names.{Class, ◌+◌, ◌-◌, length, take, drop}
use Rattle.listing.proofs.Names.{comment_of, sym, ◌∙◌, pick_yes, eq-eqb, arith, length-take}
use Rattle.listing.proofs.Comments.{hash_in, comment_none, comment_is}
use Rattle.listing.proofs.Runs.{run_fits}
use Rattle.listing.proofs.notes.words_of.Goals as goal

pub returns-then-c-s : goal.returns-then-c-s
unfolding comment_of
returns-then-c-s c = sym (pick_yes _ _ _ (eq-eqb _ _ (sym c.run-c.ensures ∙ c.if-c-s.true)))

pub overflow_add-from : goal.overflow_add-from
overflow_add-from c = omega (arith, hash_in c.args.s.now _ c.run-c.ensures c.if-c-s.false)

pub overflow_add-c : goal.overflow_add-c
overflow_add-c c = omega (arith, hash_in c.args.s.now _ c.run-c.ensures c.if-c-s.false)

pub slice_bounds-run-count : goal.slice_bounds-run-count
slice_bounds-run-count c = hash_in c.args.s.now _ c.run-c.ensures c.if-c-s.false

pub slice_bounds-run-start : goal.slice_bounds-run-start
slice_bounds-run-start c = hash_in c.args.s.now _ c.run-c.ensures c.if-c-s.false

pub overflow_add-from-2 : goal.overflow_add-from-2
overflow_add-from-2 c =
    omega (
      arith,
      hash_in c.args.s.now _ c.run-c.ensures c.if-c-s.false,
      c.run.ensures,
      run_fits Class.Blank
          (take (length c.args.s.now - (c.run-c.result + 1)) (drop (c.run-c.result + 1) c.args.s.now)),
      length-take (length c.args.s.now - (c.run-c.result + 1))
          (drop (c.run-c.result + 1) c.args.s.now),
    )

pub returns-then-to-from : goal.returns-then-to-from
returns-then-to-from c =
    comment_none c.args.s.now _ _ _ c.run-c.ensures c.if-c-s.false c.run.ensures c.solid_to-to.ensures c.if-to-from.true

pub returns-else-to-from : goal.returns-else-to-from
returns-else-to-from c =
    comment_is c.args.s.now _ _ _ c.run-c.ensures c.if-c-s.false c.run.ensures c.solid_to-to.ensures c.if-to-from.false
