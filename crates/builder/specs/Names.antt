-- What the definitions of this crate are written with.
pub use Rattle.builder.specs.declared.BuildError.{BuildError}
pub use Rattle.std.specs.Prelude.{Result, Ok, Err}
pub use Rattle.records.specs.declared.BadList.{BadList}
pub use Rattle.walk.specs.declared.Table.{Table}
pub use Rattle.std.specs.Prelude.{Option, Some, None}
pub use Rattle.std.specs.Prelude.{◌%◌, ◌*◌, ◌++◌, ◌+◌, ◌-◌, ◌/◌, ◌<◌, ◌^◌, ◌≡◌, ◌≤◌}
unfoldable pub use Rattle.memory.specs.Memory.{memory_ok}
pub use Rattle.page.specs.Ground.{Bool, List, [], drop, eqb, get_or, leb, length, ltb, not, suc, zero, ℕ}
unfoldable pub use Rattle.page.specs.Pick.{◌and◌, pick}
pub use Rattle.page.specs.Words.{megabytes, virtual}
unfoldable pub use Rattle.records.specs.Mappings.{mappings}
unfoldable pub use Rattle.records.specs.Meanings.{holder}
pub use Rattle.records.specs.Noted.{Kinds}
unfoldable pub use Rattle.records.specs.Refusals.{checked}
pub use Rattle.records.specs.declared.Mapping.{Mapping}
unfoldable pub use Rattle.tables.specs.Kinds.{has_table, table_by}
unfoldable pub use Rattle.tables.specs.Tables.{image_length, table_end, table_of, table_start}
pub use Rattle.tables.specs.Tables.{table_size}
pub use Rattle.tables.specs.Words.{first_by, page_word, word_in}
unfoldable pub use Rattle.tables.specs.Words.{image_word, second_word, words_in}
unfoldable pub use Rattle.wire.specs.Spliced.{bytes_by, spliced}
