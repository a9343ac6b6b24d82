-- What the definitions of this crate are written with.
pub use Rattle.walk.specs.declared.Unfound.{Unfound}
pub use Rattle.audit.specs.declared.ListError.{ListError}
pub use Rattle.std.specs.Prelude.{Result, Ok, Err}
pub use Rattle.audit.specs.declared.ImageError.{ImageError}
pub use Rattle.std.specs.Prelude.{Option, Some, None}
pub use Rattle.std.specs.Prelude.{◌%◌, ◌*◌, ◌++◌, ◌+◌, ◌-◌, ◌/◌, ◌<◌, ◌^◌, ◌∷◌, ◌≡◌, ◌≤◌}
unfoldable pub use Rattle.memory.specs.Memory.{memory_ok}
pub use Rattle.memory.specs.Memory.{Lent, LentAt, lent_alone, lent_ok}
pub use Rattle.page.specs.Ground.{Bool, List, [], drop, eqb, false, leb, length, ltb, not, suc, true}
pub use Rattle.page.specs.Ground.{zero, ℕ}
unfoldable pub use Rattle.page.specs.Pick.{◌and◌, pick}
pub use Rattle.page.specs.Words.{limit, megabytes, physical, virtual}
pub use Rattle.page.specs.declared.Kind.TheVariants.{Large}
pub use Rattle.page.specs.declared.VirtualAddress.{VirtualAddress}
unfoldable pub use Rattle.records.specs.Mappings.{records_of}
pub use Rattle.records.specs.Mappings.{record_size}
unfoldable pub use Rattle.records.specs.Meanings.{holder}
pub use Rattle.records.specs.declared.Mapping.{Mapping}
unfoldable pub use Rattle.walk.specs.Descriptors.{first_of, second_of}
pub use Rattle.walk.specs.Repeated.{AllRepeated, index_limit, repeats, word_bits}
pub use Rattle.walk.specs.Uniform.{Uniform, look_in}
pub use Rattle.walk.specs.Walk.{base_bits}
unfoldable pub use Rattle.walk.specs.Walk.{read_in}
pub use Rattle.walk.specs.declared.First.{First}
pub use Rattle.walk.specs.declared.Page.{Page}
pub use Rattle.walk.specs.declared.Table.{Table}
unfoldable pub use Rattle.wire.specs.Words.{pasted}
pub use Rattle.wire.specs.Words.{word_at}
