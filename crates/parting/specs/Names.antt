-- What the definitions of this crate are written with.
pub use Rattle.std.specs.Borrow.{Bor, MutBor}
pub use Rattle.std.specs.Prelude.{◌⊎◌, ◌%◌, ◌*◌, ◌+◌, ◌-◌, ◌/◌, ◌<◌, ◌∷◌, ◌≡◌, ◌≤◌}
pub use Rattle.page.specs.Ground.{Bool, List, [], drop, eqb, false, length, ltb, min, not, suc, take, true, zero, ℕ}
unfoldable pub use Rattle.page.specs.Pick.{◌and◌, pick}
pub use Rattle.parting.specs.declared.Owner.{Owner}
pub use Rattle.parting.specs.declared.Parting.{Parting}
pub use Rattle.std.specs.Prelude.{Option, Some, None}
unfoldable pub use Rattle.wire.specs.Words.{bytes_of}
pub use Rattle.wire.specs.Words.{Bytes, word_at}
