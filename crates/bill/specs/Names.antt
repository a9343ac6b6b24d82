-- The types that the bill is written with, and their cases. Others take them from here.
pub use Rattle.std.specs.Prelude.{Option, Some, None, Float, ◌∷◌, ◌≡◌}
pub use Rattle.std.specs.Float.{binary64}
pub use Rattle.memory.specs.declared.Place.{Place}
pub use Rattle.memory.specs.declared.Source.{Source}
pub use Rattle.memory.specs.declared.Reads.{Reads}
pub use Rattle.prices.specs.declared.Price.{Price}
pub use Rattle.prices.specs.declared.Prices.{Prices}
pub use Rattle.prices.specs.declared.Side.{Side}
pub use Rattle.bill.specs.declared.Seen.{Seen}
pub use Rattle.bill.specs.declared.Bill.{Bill}
pub use Rattle.memory.specs.Reads.{sources}
pub use Rattle.page.specs.Ground.{Bool, List, [], false, true, ℕ}
unfoldable pub use Rattle.page.specs.Pick.{◌and◌}
pub use Rattle.prices.specs.Prices.{f0, fresh_side, prices_ok, row_of, side_read}
unfoldable pub use Rattle.prices.specs.Prices.{word_price}
