use Rattle.listing.proofs.Names.{glyph, sym, pick_yes, pick_no, lt-ltb, le-ltb}
use Rattle.listing.proofs.printer.glyph.Goals as goal

pub returns-then-d-lt10 : goal.returns-then-d-lt10
unfolding glyph
returns-then-d-lt10 c = sym (pick_yes _ _ _ (lt-ltb _ _ c.if-d-lt10.true))

pub returns-else-d-lt10 : goal.returns-else-d-lt10
unfolding glyph
returns-else-d-lt10 c = sym (pick_no _ _ _ (le-ltb _ _ c.if-d-lt10.false))
