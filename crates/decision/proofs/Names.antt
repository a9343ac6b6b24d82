-- What the proofs of this crate are written with.
pub use borrow.Author.Rules.{rules}
pub use mathlib.Core.Path.{refl, ◌∙◌, ap, sym}
unfoldable pub use Rattle.decision.specs.Decisions.{by_access}
pub use Rattle.decision.specs.Decisions.{plainly}
pub use Rattle.page.proofs.Picks.{pick_no, pick_yes}
