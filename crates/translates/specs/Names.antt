-- What the definitions of this crate are written with.
pub use Rattle.walk.specs.declared.Unfound.{Unfound}
pub use Rattle.std.specs.Prelude.{Result, Ok, Err}
pub use Rattle.builder.specs.declared.BuildError.{BuildError}
pub use Rattle.std.specs.Prelude.{Option, Some, None}
pub use Rattle.std.specs.Prelude.{◌⊎◌, ◌++◌, ◌+◌, ◌-◌, ◌<◌, ◌∷◌, ◌≡◌, ◌≤◌}
unfoldable pub use Rattle.builder.specs.Build.{answer_of, build_of}
unfoldable pub use Rattle.builder.specs.Image.{image}
pub use Rattle.memory.specs.Memory.{Lent, lent_ok}
pub use Rattle.memory.specs.declared.Reads.{Reads}
pub use Rattle.memory.specs.declared.Source.{Source}
pub use Rattle.page.specs.Ground.{List, [], drop, length, take, true, ℕ}
pub use Rattle.page.specs.Words.{limit, megabytes}
pub use Rattle.page.specs.declared.VirtualAddress.{VirtualAddress}
unfoldable pub use Rattle.records.specs.Mappings.{byte_of, mappings}
unfoldable pub use Rattle.records.specs.Meanings.{holder}
pub use Rattle.records.specs.declared.Mapping.{Mapping}
unfoldable pub use Rattle.tables.specs.Tables.{image_length}
pub use Rattle.walk.specs.Descriptors.{physical_of}
pub use Rattle.walk.specs.Uniform.{Uniform}
pub use Rattle.walk.specs.declared.Page.{Page}
pub use Rattle.wire.specs.Words.{Bytes}
