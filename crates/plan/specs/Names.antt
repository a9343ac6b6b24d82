-- What the definitions of this crate are written with.
pub use Rattle.std.specs.Prelude.{◌%◌, ◌/◌, ◌^◌, ◌≡◌}
pub use Rattle.page.specs.Ground.{Bool, eqb, leb, ℕ}
unfoldable pub use Rattle.page.specs.Pick.{◌and◌, pick}
