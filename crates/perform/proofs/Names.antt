-- What the proofs of this crate are written with.
pub use Rattle.std.proofs.Common.{Option, Some, None}
pub use borrow.Author.Rules.{rules}
pub use mathlib.Core.Path.{◌∙◌, ap, refl, subst, sym}
pub use native.Mathlib.Omega.{arith}
pub use Rattle.page.proofs.Picks.{pick_no, pick_yes}
pub use Rattle.page.specs.Ground.{get_or}
pub use Rattle.perform.specs.Attempts.{after_of, walked_of, wordless_of}
pub use Rattle.perform.specs.Charged.{charged_of}
pub use Rattle.perform.specs.Performed.{Fit, decided_for, done_of, registers_for}
pub use Rattle.walk.specs.Walk.{source_at}
pub use Rattle.walk.specs.declared.First.{First}
