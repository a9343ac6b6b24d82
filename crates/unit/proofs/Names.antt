-- What the proofs of this crate are written with.
pub use borrow.Author.Rules.{rules}
pub use borrow.Author.Tests.{ltb-true, not-true}
pub use mathlib.Core.Path.{◌∙◌, ap, refl, sym}
pub use native.Mathlib.Omega.{arith}
pub use Rattle.page.proofs.Picks.{and_left, and_right, pick_by, pick_no, pick_yes}
pub use Rattle.page.specs.Ground.{◌<◌}
pub use Rattle.plan.specs.Plans.{command_plan, drop_plan, pending_plan, read_plan, request_plan, shift_plan, write_plan}
pub use Rattle.plan.specs.declared.Reason.{Reason}
pub use Rattle.unit.specs.Acts.{told_of}
unfoldable pub use Rattle.unit.specs.Calls.{drop_of, lacks, read_of, request_of, shift_from, shift_of, write_of}
pub use Rattle.unit.specs.Calls.{held_retried, prefetched, retry_lacks}
pub use Rattle.unit.specs.Device.{attempt_of, look, refused_with}
unfoldable pub use Rattle.unit.specs.Device.{in_range}
pub use Rattle.unit.specs.Refusals.{Refusals, Refusing}
unfoldable pub use Rattle.unit.specs.Refusals.{refuses}
