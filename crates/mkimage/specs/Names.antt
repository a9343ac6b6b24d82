-- What the definitions of this crate are written with.
pub use Rattle.std.specs.Prelude.{◌%◌, ◌++◌, ◌+◌, ◌/◌, ◌∷◌, ◌≡◌, ◌≤◌}
pub use Rattle.page.specs.Ground.{List, [], drop, length, ltb, suc, take, zero, ℕ}
unfoldable pub use Rattle.page.specs.Pick.{pick}
