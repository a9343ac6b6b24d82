-- What the proofs of this crate are written with.
unfoldable pub use Rattle.meters.specs.Posted.{posted}
pub use Rattle.meters.specs.declared.Meters.{Meters}
pub use Rattle.meters.specs.declared.Tally.{Tally}
