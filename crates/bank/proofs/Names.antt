-- What the proofs of this crate are written with.
pub use borrow.Author.Rules.{rules}
pub use borrow.Author.Tests.{eq-eqb, eqb-false, eqb-true, le-ltb, lt-ltb, ltb-true, ne_eqb}
pub use lib.ListN.{length-set}
pub use lib.Seq.{get_or-set_other, get_or-set_same}
pub use mathlib.Core.Logic.{◌⊎◌, inl, inr}
pub use mathlib.Core.Path.{◌∙◌, ap, ap₂, refl, subst, sym}
pub use native.Mathlib.Omega.{arith}
pub use Rattle.bank.specs.Changes.{entry_filled, stored_at}
unfoldable pub use Rattle.bank.specs.Changes.{filled, next_slot, next_victim}
pub use Rattle.bank.specs.Spans.{Ends, EndsKept, high_kept, in_span, low_kept, sought}
unfoldable pub use Rattle.bank.specs.Spans.{high_of, low_of, sought_from}
pub use Rattle.lanes.specs.Lanes.{cam_ok}
pub use Rattle.page.proofs.Picks.{and_left, and_right, and_yes, pick_by, pick_no, pick_yes}
pub use Rattle.page.specs.Ground.{◌-◌, ◌≤◌, false, true}
unfoldable pub use Rattle.page.specs.Words.{word_flushed, word_flushed_at}
