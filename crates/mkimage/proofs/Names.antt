-- What the proofs of this crate are written with.
pub use Rattle.std.proofs.Common.{Result, Ok, Err}
pub use Rattle.builder.specs.declared.BuildError.{BuildError}
pub use borrow.Author.Rules.{rules}
pub use lib.Seq.{paste}
pub use mathlib.Core.Path.{◌∙◌, ap, refl, sym}
pub use native.Mathlib.Omega.{arith}
pub use Rattle.builder.specs.Build.{outcome}
pub use Rattle.mkimage.specs.Output.{decimal}
pub use Rattle.wire.specs.Words.{shown}
pub use Rattle.page.specs.Ground.{◌-◌}
