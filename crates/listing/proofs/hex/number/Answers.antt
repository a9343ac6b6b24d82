use Rattle.listing.specs.Names.{length}
use Rattle.listing.proofs.Names.{part_to_end, hex_digits, prefixed, hex_number, sym, ◌∙◌, ap, pick_yes, pick_no, and_left, leb-true}
use Rattle.listing.proofs.hex.number.Goals as goal

pub slice_bounds-written-count : goal.slice_bounds-written-count
unfolding prefixed
slice_bounds-written-count c = leb-true 2 (length c.args.w.now) (and_left _ _ (sym c.prefixed.ensures ∙ c.if-prefixed.true))

pub slice_bounds-written-start : goal.slice_bounds-written-start
unfolding prefixed
slice_bounds-written-start c = leb-true 2 (length c.args.w.now) (and_left _ _ (sym c.prefixed.ensures ∙ c.if-prefixed.true))

pub returns-then-prefixed : goal.returns-then-prefixed
unfolding hex_number
returns-then-prefixed c =
    c.written.ensures ∙ ap hex_digits (part_to_end c.args.w.now 2) ∙ sym (pick_yes _ _ _ (sym c.prefixed.ensures ∙ c.if-prefixed.true))

pub returns-else-prefixed : goal.returns-else-prefixed
unfolding hex_number
returns-else-prefixed c = c.written-else-prefixed.ensures ∙ sym (pick_no _ _ _ (sym c.prefixed.ensures ∙ c.if-prefixed.false))
