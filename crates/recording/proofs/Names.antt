-- What the proofs of this crate are written with.
pub use borrow.Author.Rules.{rules}
pub use borrow.Author.Tests.{eq-eqb, eqb-true, le-leb, le-ltb, lt-leb, lt-ltb, ltb-false, ne_eqb, not-false, not-true}
pub use lib.ListN.{length-append, length-drop, length-replicate, length-take, take-append-drop}
pub use lib.Seq.{drop-append-add, drop_at, drop-drop, length-take-le, take_at}
pub use mathlib.Core.List.{append_assoc}
pub use mathlib.Core.Path.{◌∙◌, ap, ap₂, refl, subst, sym}
pub use native.Mathlib.Decide.{dec_le}
pub use native.Mathlib.Numerals.{add-one}
pub use native.Mathlib.Omega.{arith}
pub use Rattle.page.proofs.Picks.{and_left, and_no, and_right, and_yes, pick_by, pick_no, pick_yes}
unfoldable pub use Rattle.recording.specs.Blocks.{block_of, calls_of, pieces, unused_of}
unfoldable pub use Rattle.recording.specs.Reading.{all_zero, block_judged, block_taken, heard_from, recording_read}
unfoldable pub use Rattle.recording.specs.Writing.{block_written, filled_with, first_bad, recording_written}
