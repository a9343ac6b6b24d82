-- What the proofs of this crate are written with.
pub use borrow.Author.Rules.{rules}
pub use borrow.Author.Tests.{eq-eqb}
pub use lib.Dec.{lit≤}
pub use lib.Pow.{pow_pos}
pub use mathlib.Core.Bool.{true≢false}
pub use mathlib.Core.Path.{◌∙◌, ap, ap₂, refl, subst, sym}
pub use native.Mathlib.Decide.{dec_le}
pub use native.Mathlib.Omega.{arith}
pub use Rattle.page.proofs.Picks.{and_yes, pick_no, pick_yes}
pub use Rattle.page.specs.Ground.{◌<◌, ◌∷◌, ◌≤◌, true}
pub use Rattle.tables.specs.Tables.{start_after}
unfoldable pub use Rattle.tables.specs.Tables.{table_end, table_of, table_start}
unfoldable pub use Rattle.tables.specs.Words.{second_word}
pub use Rattle.tables.specs.Words.{step_bits}
