-- What the proofs of this crate are written with.
pub use borrow.Author.Rules.{rules}
pub use borrow.Author.Tests.{eqb-false, eqb-true}
pub use lib.Bits.{xor_comm, xor_lt, xor_mod, xor_self, xor_shifted, xor_shr, xor_step, xor_zero_r}
pub use mathlib.Core.Path.{◌∙◌, ap, ap₂, refl, subst, sym}
pub use native.Mathlib.Omega.{arith}
pub use Rattle.page.proofs.Picks.{pick_by}
unfoldable pub use Rattle.crc.specs.Crc.{bit_step, bit_steps, byte_step, crc32, crc_from}
pub use Rattle.crc.specs.Crc.{IsTable, behind, ones, polynomial}
