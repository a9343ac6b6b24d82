-- What the definitions of this crate are written with.
pub use Rattle.records.specs.declared.Denial.{Denial}
pub use Rattle.std.specs.Prelude.{Result, Ok, Err}
pub use Rattle.records.specs.declared.BadList.{BadList}
pub use Rattle.std.specs.Prelude.{Option, Some, None}
pub use Rattle.std.specs.Prelude.{◌%◌, ◌*◌, ◌++◌, ◌+◌, ◌/◌, ◌<◌, ◌^◌, ◌∷◌, ◌≡◌, ◌≤◌}
pub use Rattle.page.specs.Ground.{Bool, List, [], drop, eqb, false, get_or, leb, length, ltb, not}
pub use Rattle.page.specs.Ground.{replicate, set, suc, take, true, zero, ℕ}
pub use Rattle.page.specs.Low.{agree}
unfoldable pub use Rattle.page.specs.Low.{joined}
unfoldable pub use Rattle.page.specs.Pick.{◌and◌, ◌or◌, pick}
unfoldable pub use Rattle.page.specs.Words.{kind_of}
pub use Rattle.page.specs.Words.{low_bits, megabytes, permits, physical, type_of, virtual}
pub use Rattle.page.specs.declared.Access.{Access}
pub use Rattle.page.specs.declared.Kind.{Kind}
pub use Rattle.page.specs.declared.PhysicalAddress.{PhysicalAddress}
pub use Rattle.page.specs.declared.VirtualAddress.{VirtualAddress}
pub use Rattle.records.specs.declared.Mapping.{Mapping}
pub use Rattle.wire.specs.Words.{word_bytes}
unfoldable pub use Rattle.wire.specs.Words.{word_of}
