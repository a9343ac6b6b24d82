-- What the proofs of this crate are written with.
pub use Rattle.std.proofs.Common.{Option, Some, None}
pub use lib.Dec.{lit<}
pub use lib.ListN.{length-take}
pub use lib.Seq.{get_or-drop, get_or-take}
pub use mathlib.Core.Path.{◌∙◌, ap, ap₂, refl, subst, sym}
pub use native.Mathlib.Nat.{le_refl, mod-eq_of_lt}
pub use native.Mathlib.Omega.{arith}
unfoldable pub use Rattle.memory.specs.Memory.{place_in}
pub use Rattle.memory.specs.declared.Place.{Place}
pub use Rattle.page.proofs.Picks.{pick_by, pick_no, pick_yes}
pub use Rattle.page.proofs.Slot.{low_bits-le, type_of-lt}
pub use Rattle.page.specs.Ground.{Bool, ◌%◌, ◌*◌, ◌/◌, ◌^◌, false, get_or, suc}
unfoldable pub use Rattle.page.specs.Low.{upper}
unfoldable pub use Rattle.page.specs.Pick.{◌or◌, pick}
pub use Rattle.page.specs.Words.{low_bits, physical, virtual}
pub use Rattle.page.specs.declared.Kind.{Kind}
pub use Rattle.records.proofs.Accepted.{Disjoint}
pub use Rattle.records.proofs.Alls.{All}
pub use Rattle.records.proofs.Holders.{OnHeld, all-holder}
unfoldable pub use Rattle.records.specs.Checks.{proper}
unfoldable pub use Rattle.records.specs.Mappings.{holds, mapping_of}
pub use Rattle.tables.proofs.Places.{end_last, end_next, image-first}
unfoldable pub use Rattle.tables.specs.Tables.{table_end, table_of, table_start}
pub use Rattle.tables.specs.Tables.{table_size}
pub use Rattle.tables.specs.Words.{address_of, first_by, page_word, section_word, step_bits}
unfoldable pub use Rattle.tables.specs.Words.{first_word, image_word, in_tables, second_word}
pub use Rattle.translates.specs.Statements.{Gives, Has, ReadsInside, Standing}
unfoldable pub use Rattle.walk.specs.Descriptors.{first_of, second_of}
unfoldable pub use Rattle.walk.specs.Walk.{read_in, walk_from}
pub use Rattle.walk.specs.declared.Table.{Table}
pub use Rattle.walk.specs.declared.Walked.{Walked}
unfoldable pub use Rattle.wire.specs.Spliced.{bytes_by}
unfoldable pub use Rattle.wire.specs.Words.{word_of}
