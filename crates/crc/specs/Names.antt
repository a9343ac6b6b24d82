-- What the definitions of this crate are written with.
pub use Rattle.std.specs.Prelude.{◌%◌, ◌*◌, ◌++◌, ◌+◌, ◌-◌, ◌/◌, ◌<◌, ◌^◌, ◌∷◌, ◌≡◌, ◌≤◌}
pub use Rattle.std.specs.Int.Bits.{bit_xor}
pub use Rattle.page.specs.Ground.{List, [], drop, eqb, get_or, length, suc, take, zero, ℕ}
unfoldable pub use Rattle.page.specs.Pick.{pick}
pub use Rattle.wire.specs.Words.{Bytes}
