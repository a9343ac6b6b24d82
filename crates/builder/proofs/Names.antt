-- What the proofs of this crate are written with.
pub use borrow.Author.Rules.{rules}
pub use borrow.Author.Tests.{eq-eqb, le-ltb, lt-ltb, ne_eqb, not-false, not-true}
pub use lib.ListN.{length-set}
pub use mathlib.Core.Path.{◌∙◌, ap, ap₂, refl, subst, sym}
pub use native.Mathlib.Decide.{ℕ_discrete}
pub use native.Mathlib.Omega.{arith}
pub use Rattle.builder.specs.Build.{outcome}
unfoldable pub use Rattle.builder.specs.Build.{room_ok}
unfoldable pub use Rattle.builder.specs.Image.{image, written}
unfoldable pub use Rattle.builder.specs.Parts.{part_word}
pub use Rattle.builder.specs.Places.{Firsts, Level}
unfoldable pub use Rattle.builder.specs.Places.{based}
pub use Rattle.page.proofs.Picks.{and_left, and_no, and_right, and_yes, pick_no, pick_yes}
pub use Rattle.page.proofs.Slot.{low_bits-le}
pub use Rattle.page.specs.Ground.{false, true}
unfoldable pub use Rattle.page.specs.Low.{upper}
unfoldable pub use Rattle.page.specs.Pick.{◌or◌}
pub use Rattle.page.specs.Words.{low_bits}
pub use Rattle.page.specs.declared.Kind.{Kind}
pub use Rattle.tables.proofs.Places.{end_4, end-first, size_le, start_4, start-le}
pub use Rattle.tables.specs.Tables.{start_after}
unfoldable pub use Rattle.tables.specs.Words.{first_word}
pub use Rattle.tables.specs.Words.{step_bits}
pub use Rattle.wire.proofs.Splices.{spliced_same}
