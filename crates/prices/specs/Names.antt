-- The types that prices are written with, and their cases.
pub use Rattle.std.specs.Prelude.{Option, Some, None, Float, ◌/◌, ◌≡◌}
pub use Rattle.std.specs.Float.{binary64}
pub use Rattle.page.specs.declared.PhysicalAddress.{PhysicalAddress}
pub use Rattle.prices.specs.declared.Price.{Price}
pub use Rattle.prices.specs.declared.Prices.{Prices}
pub use Rattle.prices.specs.declared.Side.{Side}
pub use Rattle.page.specs.Ground.{Bool, eqb, ℕ}
unfoldable pub use Rattle.page.specs.Pick.{◌and◌, pick}
