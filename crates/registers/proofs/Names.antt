-- What the proofs of this crate are written with.
pub use borrow.Author.Rules.{rules}
pub use borrow.Author.Tests.{eq-eqb, eqb-true, le-ltb, lt-ltb, not-false, not-true}
pub use mathlib.Core.Path.{◌∙◌, ap, refl, subst, sym}
pub use native.Mathlib.Omega.{arith}
pub use Rattle.page.proofs.Picks.{and_left, and_no, and_right, and_yes, pick_by}
pub use Rattle.page.specs.Ground.{◌<◌}
unfoldable pub use Rattle.registers.specs.Fields.{cam_address, entry_ok, registers_ok}
unfoldable pub use Rattle.registers.specs.Table.{command_of, control_command, listed, load_command, lock_command, value_at, when_bit}
