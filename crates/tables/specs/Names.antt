-- What the definitions of this crate are written with.
pub use Rattle.walk.specs.declared.Table.{Table}
pub use Rattle.std.specs.Prelude.{Option, Some, None}
pub use Rattle.std.specs.Prelude.{◌%◌, ◌*◌, ◌+◌, ◌-◌, ◌/◌, ◌^◌, ◌≡◌}
pub use Rattle.page.specs.Ground.{Bool, List, eqb, false, get_or, leb, ltb, suc, zero, ℕ}
unfoldable pub use Rattle.page.specs.Low.{upper}
unfoldable pub use Rattle.page.specs.Pick.{◌and◌, ◌or◌, pick}
pub use Rattle.page.specs.Words.{low_bits, type_of, virtual}
pub use Rattle.page.specs.declared.Kind.{Kind}
pub use Rattle.page.specs.declared.VirtualAddress.{VirtualAddress}
unfoldable pub use Rattle.records.specs.Meanings.{holder}
unfoldable pub use Rattle.records.specs.Noted.{has_kind}
pub use Rattle.records.specs.declared.Mapping.{Mapping}
