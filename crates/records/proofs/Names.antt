-- What the proofs of this crate are written with.
pub use borrow.Author.Rules.{rules}
pub use borrow.Author.Tests.{eq-eqb, eqb-true, le-leb, lt-leb, ltb-true, ne_eqb, not-false}
pub use lib.Bits.{bit_or}
pub use lib.ListN.{length-drop, length-set, length-take}
pub use lib.Pow.{field, mod-mod-pow, pow_pos, shl_exact, shr-shr}
pub use lib.Seq.{get_or-set_other, get_or-set_same}
pub use mathlib.Core.Bool.{true≢false}
pub use mathlib.Core.Logic.{◌⊎◌, inl, inr}
pub use mathlib.Core.Path.{◌∙◌, ap, ap₂, refl, subst, sym}
pub use native.Mathlib.Decide.{dec_le, ℕ_discrete}
pub use native.Mathlib.Nat.{mul-mod_left, zero-div}
pub use native.Mathlib.Numerals.{add-one}
pub use native.Mathlib.Omega.{arith}
pub use Rattle.page.proofs.Picks.{and_left, and_no, and_right, and_yes, or_no, or_yes, pick_no, pick_yes}
pub use Rattle.page.proofs.Slot.{low_bits-le}
pub use Rattle.page.specs.Ground.{◌-◌}
pub use Rattle.records.specs.Bitmap.{Untaken, Covered, Free, Full, Says}
unfoldable pub use Rattle.records.specs.Bitmap.{bit}
unfoldable pub use Rattle.records.specs.Checks.{proper, well_formed}
unfoldable pub use Rattle.records.specs.Mappings.{holds, mapping_of, mappings, mappings_from, overlap}
pub use Rattle.records.specs.Mappings.{no_mapping, record_at}
pub use Rattle.records.specs.Meanings.{held_meaning}
unfoldable pub use Rattle.records.specs.Meanings.{holder}
pub use Rattle.records.specs.Noted.{Blank, Kinds, is_in, note_at}
unfoldable pub use Rattle.records.specs.Noted.{has_kind}
unfoldable pub use Rattle.records.specs.Refusals.{bad, checked, checked_from, clashes, overlapping}
pub use Rattle.records.specs.Refusals.{begun}
