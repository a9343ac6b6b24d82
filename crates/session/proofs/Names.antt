-- What the proofs of this crate are written with.
pub use borrow.Author.Rules.{rules}
pub use mathlib.Core.Path.{◌∙◌, ap}
pub use Rattle.decision.specs.declared.Said.{Said}
pub use Rattle.meters.specs.declared.Meters.{Meters}
pub use Rattle.session.specs.Bench.{made}
pub use Rattle.session.specs.declared.Stepped.{Stepped}
pub use Rattle.unit.specs.Machine.{step_out}
