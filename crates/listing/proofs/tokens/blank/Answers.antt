use Rattle.listing.proofs.Names.{blank, sym, ◌∙◌, or_yes, or_no, eq-eqb, ne_eqb}
use Rattle.listing.proofs.tokens.blank.Goals as goal

pub returns-then-x-eq32 : goal.returns-then-x-eq32
unfolding blank
returns-then-x-eq32 c = let e = eq-eqb _ _ c.if-x-eq32.true in e ∙ sym (or_yes _ _ e)

pub returns-else-x-eq32 : goal.returns-else-x-eq32
unfolding blank
returns-else-x-eq32 c = sym (or_no _ _ (ne_eqb _ _ c.if-x-eq32.false))
