-- What the definitions of this crate are written with.
pub use Rattle.std.specs.Prelude.{negsuc, pos, ℤ, ◌%◌, ◌*◌, ◌++◌, ◌+◌, ◌-◌, ◌/◌, ◌<◌, ◌^◌, ◌∷◌, ◌≡◌, ◌≤◌}
pub use Rattle.page.specs.Ground.{List, [], drop, get_or, leb, length, suc, take, zero, ℕ}
unfoldable pub use Rattle.page.specs.Pick.{pick}
