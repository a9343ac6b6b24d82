use Rattle.listing.proofs.Names.{hex_digits, sym, ◌∙◌, pick_yes, pick_no}
use Rattle.listing.proofs.hex.written.Goals as goal

pub returns-then-is_empty : goal.returns-then-is_empty
unfolding hex_digits
returns-then-is_empty c = sym (pick_yes _ _ _ (sym c.is_empty.ensures ∙ c.if-is_empty.true))

pub returns-else-is_empty : goal.returns-else-is_empty
unfolding hex_digits
returns-else-is_empty c = c.digits.ensures ∙ sym (pick_no _ _ _ (sym c.is_empty.ensures ∙ c.if-is_empty.false))
