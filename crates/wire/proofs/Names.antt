-- What the proofs of this crate are written with.
pub use borrow.Author.Tests.{le-leb, leb-true, lt-leb}
pub use lib.ListN.{length-append, length-drop, take-append-drop}
pub use lib.Seq.{length-take-le}
pub use mathlib.Core.List.{append_assoc}
pub use mathlib.Core.Path.{◌∙◌, ap, ap₂, refl, sym}
pub use native.Mathlib.Decide.{dec_le}
pub use native.Mathlib.Numerals.{add-one}
pub use native.Mathlib.Omega.{arith}
pub use Rattle.page.proofs.Picks.{pick_no, pick_yes}
pub use Rattle.page.specs.Ground.{◌<◌}
unfoldable pub use Rattle.wire.specs.Spliced.{run_put, spliced}
unfoldable pub use Rattle.wire.specs.Words.{bytes_of, placed, word_of, words_put}
pub use Rattle.wire.specs.Words.{word_bytes}
