-- What the proofs of this crate are written with.
pub use mathlib.Core.Path.{◌∙◌, ap}
