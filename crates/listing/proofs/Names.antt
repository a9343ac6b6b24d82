-- What the proofs of this crate are written with.
pub use borrow.Author.Rules.{rules}
pub use borrow.Author.Tests.{eq-eqb, eqb-true, le-leb, le-ltb, leb-false, leb-true, lt-leb, lt-ltb, ltb-false, ltb-true, ne_eqb, not-false, not-true}
pub use borrow.Rule.Slice.PartAt.{part_to_end}
pub use lib.Dec.{lit≤}
pub use lib.ListN.{get_or-eq_default as List·getD-eq-default, drop_of_length-le, length-append, length-drop, length-set, length-take, take-append-drop}
pub use lib.Seq.{drop-append-add, drop_at, drop-cons, drop-drop, length-take-le, paste, take_at, take-length}
pub use mathlib.Core.List.{append_assoc, append-nil}
pub use mathlib.Core.Path.{◌∙◌, ap, ap₂, refl, subst, sym}
pub use native.Mathlib.Decide.{dec_le}
pub use native.Mathlib.Nat.{add-zero, mod-eq_of_lt}
pub use native.Mathlib.Numerals.{add-one}
pub use native.Mathlib.Omega.{arith}
pub use Rattle.listing.specs.Lines.{address_by, after_access, after_kind, after_physical, after_virtual, body, mapping, uncommented}
unfoldable pub use Rattle.listing.specs.Lines.{address_in, body_length, line_ended, from_access, from_kind, from_physical, from_virtual, parsed}
unfoldable pub use Rattle.listing.specs.Numbers.{digit, hex_number, prefixed, read_on, within, hex_digits}
pub use Rattle.listing.specs.Numbers.{end}
unfoldable pub use Rattle.listing.specs.Prints.{access_text, formed, formed_from, glyph, hex_text, line_text, print_text, printed}
pub use Rattle.listing.specs.Prints.{hex_column, kind_column, shown_at}
pub use Rattle.wire.specs.Words.{shown}
unfoldable pub use Rattle.listing.specs.Purposes.{comment_of, purpose_of, solid_to, start_of}
pub use Rattle.listing.specs.Texts.{Reading, by_said, longest_text, reading}
unfoldable pub use Rattle.listing.specs.Texts.{lines_of, read_lines, read_text}
unfoldable pub use Rattle.wire.specs.Words.{pasted, word_of}
unfoldable pub use Rattle.listing.specs.Words.{access_named, belongs, blank, kind_named, rest, run_length, same_bytes, word}
pub use Rattle.listing.specs.Words.{unindented}
pub use Rattle.page.proofs.Picks.{and_left, and_no, and_right, and_yes, or_no, or_yes, pick_by, pick_no, pick_yes}
unfoldable pub use Rattle.page.specs.Words.{kind_of}
unfoldable pub use Rattle.records.specs.Checks.{proper}
unfoldable pub use Rattle.records.specs.Mappings.{mapping_of, mappings_from, record_of}
