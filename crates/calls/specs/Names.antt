-- What the definitions of this crate are written with.
pub use Rattle.std.specs.Prelude.{Option, Some, None}
pub use Rattle.std.specs.Prelude.{◌%◌, ◌*◌, ◌+◌, ◌/◌, ◌∷◌, ◌≡◌, ◌≤◌}
pub use Rattle.calls.specs.declared.Call.{Call}
pub use Rattle.page.specs.Ground.{Bool, List, [], drop, eqb, false, get_or, leb, length, ltb, suc, take, true, zero, ℕ}
unfoldable pub use Rattle.page.specs.Pick.{◌and◌, pick}
pub use Rattle.page.specs.Words.{virtual}
pub use Rattle.page.specs.declared.Access.{Access}
unfoldable pub use Rattle.wire.specs.Words.{word_of}
