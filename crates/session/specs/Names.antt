-- What the definitions of this crate are written with.
pub use Rattle.std.specs.Prelude.{◌≡◌}
