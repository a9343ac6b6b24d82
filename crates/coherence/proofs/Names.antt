-- What the proofs of this crate are written with.
pub use borrow.Author.Tests.{eq-eqb, eqb-true}
pub use mathlib.Core.Bool.{true≢false}
pub use mathlib.Core.Path.{◌∙◌, ap, ap₂, refl, subst, sym}
pub use native.Mathlib.Omega.{arith}
pub use Rattle.bank.proofs.Ranges.{InRange}
unfoldable pub use Rattle.bank.specs.Changes.{filled}
pub use Rattle.coherence.specs.Agreement.{Below, Coherent, Lanes, plain}
pub use Rattle.coherence.specs.Sessions.{started}
pub use Rattle.walk.specs.Uniform.{look_in, Uniform}
unfoldable pub use Rattle.decision.specs.Decisions.{by_found}
pub use Rattle.decision.specs.Names.{Page, PhysicalAddress, Reads, Walked}
pub use Rattle.page.proofs.Picks.{and_yes, pick_by, pick_yes}
pub use Rattle.page.specs.Ground.{replicate}
unfoldable pub use Rattle.page.specs.Pick.{◌or◌}
unfoldable pub use Rattle.registers.specs.Table.{command_of, listed, no_register}
pub use Rattle.registers.specs.declared.Command.{Command}
pub use Rattle.registers.specs.declared.Setting.{Setting}
pub use Rattle.unit.proofs.Refusing.{clear_goes_on}
pub use Rattle.unit.specs.Calls.{carried, request_refusals, retried, write_refusals}
unfoldable pub use Rattle.unit.specs.Calls.{is_malformed, is_untimely, write_lacks}
pub use Rattle.unit.specs.Device.{attempt_of, cleared, done_with, refused_with}
pub use Rattle.unit.specs.Refusals.{Clear}
pub use Rattle.unit.specs.declared.Outcome.{Outcome}
