-- What the proofs of this crate are written with.
pub use borrow.Author.Rules.{rules}
pub use mathlib.Core.Path.{◌∙◌, ap, ap₂, refl, subst, sym}
pub use native.Mathlib.Omega.{arith}
unfoldable pub use Rattle.capi.specs.Boundary.{from_of, part_ran}
pub use Rattle.capi.specs.Numbers.{built_word, comparison_said, cut_built, cut_inventory, cut_written, inventory_word, place_number, verdict_word, written_word}
pub use Rattle.page.specs.Ground.{Bool, false, true}
pub use Rattle.session.specs.declared.Bench.{Bench}
