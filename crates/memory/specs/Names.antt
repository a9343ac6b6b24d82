-- What the definitions of this crate are written with.
pub use Rattle.std.specs.Borrow.{Bor, MutBor}
pub use Rattle.std.specs.Prelude.{◌⊎◌, ◌%◌, ◌+◌, ◌-◌, ◌^◌, ◌∷◌, ◌≡◌, ◌≤◌}
pub use Rattle.memory.specs.declared.Memories.{Memories}
pub use Rattle.memory.specs.declared.Place.{Place}
pub use Rattle.memory.specs.declared.Reads.{Reads}
pub use Rattle.memory.specs.declared.Source.{Source}
pub use Rattle.page.specs.Ground.{Bool, List, [], drop, eqb, leb, length, take, ℕ}
unfoldable pub use Rattle.page.specs.Pick.{◌and◌, ◌or◌, pick}
