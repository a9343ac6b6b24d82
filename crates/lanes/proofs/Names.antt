-- What the proofs of this crate are written with.
pub use borrow.Author.Rules.{rules}
pub use borrow.Author.Tests.{lt-ltb}
pub use mathlib.Core.Bool.{◌&&◌}
pub use mathlib.Core.Path.{◌∙◌, ap, refl, sym}
pub use native.Mathlib.Omega.{arith}
pub use Rattle.lanes.specs.Lanes.{cam_ok, ram_ok, slots}
unfoldable pub use Rattle.lanes.specs.Lanes.{flushed_all, flushed_entry}
pub use Rattle.page.proofs.Picks.{and_yes, pick_by, pick_no, pick_yes}
pub use Rattle.page.specs.Ground.{[], ◌-◌, ◌<◌, ◌∷◌, ◌≤◌, false, set}
unfoldable pub use Rattle.page.specs.Words.{word_dropped, word_flushed, word_flushed_at, word_matches}
pub use Rattle.page.specs.declared.VirtualAddress.{VirtualAddress}
