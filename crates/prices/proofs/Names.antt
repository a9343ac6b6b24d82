-- What the proofs of this crate are written with.
pub use borrow.Author.Tests.{eq-eqb, ne_eqb}
pub use lib.Ieee.{fin}
pub use lib.IntN.{pos}
pub use mathlib.Core.Bool.{◌&&◌}
pub use mathlib.Core.Path.{◌∙◌, ap, refl, sym}
pub use Rattle.page.proofs.Picks.{and_left, and_right, pick_no, pick_yes}
pub use Rattle.page.specs.Ground.{false, true}
unfoldable pub use Rattle.prices.specs.Prices.{every, figure_ok, row_price, word_price}
pub use Rattle.prices.specs.Prices.{f0, f4096}
