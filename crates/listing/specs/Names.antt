-- What the definitions of this crate are written with.
pub use Rattle.listing.specs.declared.PrintError.{PrintError}
pub use Rattle.listing.specs.declared.ReadError.{ReadError}
pub use Rattle.listing.specs.declared.AddressError.{AddressError}
pub use Rattle.std.specs.Prelude.{Option, Some, None}
pub use Rattle.listing.specs.declared.NumberError.{NumberError}
pub use Rattle.std.specs.Prelude.{Result, Ok, Err}
pub use Rattle.records.specs.declared.BadList.{BadList}
pub use Rattle.std.specs.Prelude.{◌%◌, ◌*◌, ◌++◌, ◌+◌, ◌-◌, ◌/◌, ◌<◌, ◌^◌, ◌∷◌, ◌≡◌, ◌≤◌}
pub use Rattle.listing.specs.declared.Class.{Class}
pub use Rattle.listing.specs.declared.Span.{Span}
pub use Rattle.listing.specs.declared.Wrong.{Wrong}
pub use Rattle.page.specs.Ground.{Bool, List, [], drop, eqb, false, get_or, leb, length, ltb}
pub use Rattle.page.specs.Ground.{not, set, suc, take, true, zero, ℕ}
unfoldable pub use Rattle.page.specs.Pick.{◌and◌, ◌or◌, pick}
pub use Rattle.page.specs.Words.{limit, megabytes, physical, type_of, virtual}
pub use Rattle.page.specs.declared.Kind.{Kind}
unfoldable pub use Rattle.records.specs.Checks.{multiple, well_formed}
unfoldable pub use Rattle.records.specs.Mappings.{mappings}
pub use Rattle.records.specs.Mappings.{record_at, record_size}
unfoldable pub use Rattle.records.specs.Refusals.{checked}
pub use Rattle.records.specs.Refusals.{most}
pub use Rattle.records.specs.declared.Mapping.{Mapping}
