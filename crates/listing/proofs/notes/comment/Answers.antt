use Rattle.listing.specs.Names.{◌≡◌, ℕ, ◌-◌, take}
use Rattle.listing.proofs.Names.{comment_of, ◌∙◌, ap, arith}
use Rattle.listing.proofs.Says.{body_fits}
use Rattle.listing.proofs.notes.comment.Goals as goal

pub slice_bounds-words_of-end : goal.slice_bounds-words_of-end
slice_bounds-words_of-end c = omega (arith, body_fits c.args.line.now, c.body_length-n.ensures)

pub returns : goal.returns
returns c =
    c.words_of.ensures ∙ ap (λ (n : ℕ). comment_of (take n c.args.line.now)) (let z : c.body_length-n.result - 0 ≡ c.body_length-n.result = omega arith in z ∙ c.body_length-n.ensures)
