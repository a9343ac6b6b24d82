-- What the proofs of this crate are written with.
pub use borrow.Author.Rules.{rules}
pub use borrow.Author.Tests.{eq-eqb, le-ltb, lt-ltb, ne_eqb, not-false, not-true}
pub use mathlib.Core.Path.{◌∙◌, ap, ap₂, refl, subst, sym}
pub use native.Mathlib.Numerals.{add-one}
pub use native.Mathlib.Omega.{arith}
pub use Rattle.page.proofs.Picks.{and_left, and_right, and_yes, pick_by, pick_no, pick_yes}
pub use Rattle.parting.specs.Parting.{agreed, common, comparison_number, comparison_owner, comparison_start, differs_at, of_owner, owner_number, part_bytes, part_source, parted, start_in}
unfoldable pub use Rattle.parting.specs.Parting.{comparison_of, differing, first_differing, owner_at, owner_of, start_of, whole_words}
