use Rattle.listing.proofs.Names.{hex_text}
use Rattle.listing.proofs.printer.hex_column.Goals as goal

pub returns : goal.returns
unfolding hex_text
returns c =
    rw (c.glyph-8.ensures, c.glyph-7.ensures, c.glyph-6.ensures, c.glyph-5.ensures, c.glyph-4.ensures, c.glyph-3.ensures, c.glyph-2.ensures, c.glyph.ensures)
