-- What the definitions of this crate are written with.
pub use Rattle.std.specs.Prelude.{◌%◌, ◌+◌, ◌^◌, ◌≡◌}
pub use Rattle.page.specs.Ground.{Bool, List, eqb, get_or, ltb, map, suc, true, zero, ℕ}
unfoldable pub use Rattle.page.specs.Pick.{◌and◌, pick}
