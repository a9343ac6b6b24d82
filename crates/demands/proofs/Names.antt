-- What the proofs of this crate are written with.
pub use mathlib.Core.Bool.{false≢true}
pub use mathlib.Core.Logic.{inl, inr}
pub use mathlib.Core.Path.{◌∙◌, ap, ap₂, refl, subst, sym}
pub use native.Mathlib.Omega.{arith}
pub use Rattle.builder.proofs.Answers.{accepted}
pub use Rattle.builder.proofs.Whole.{image_length-is}
pub use Rattle.coherence.proofs.Started.{start-on, start-walking, started_in_any_order}
pub use Rattle.coherence.specs.Sessions.{started}
pub use Rattle.walk.specs.Uniform.{look_in, Uniform}
pub use Rattle.coherence.specs.Started.{start_control}
pub use Rattle.conduct.proofs.Ranged.{range-kept}
pub use Rattle.demands.specs.Answering.{Session, ValuesFit}
pub use Rattle.demands.specs.Demands.{AsList, meant_as}
unfoldable pub use Rattle.page.specs.Pick.{pick}
unfoldable pub use Rattle.records.specs.Mappings.{byte_of}
unfoldable pub use Rattle.records.specs.Meanings.{holder}
pub use Rattle.translates.proofs.Theorems.{image_translates, leaves-image}
