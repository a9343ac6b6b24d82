-- What the proofs of this crate are written with.
pub use borrow.Author.Tests.{lt-leb}
pub use mathlib.Core.Path.{◌∙◌, ap, refl, subst, sym}
pub use native.Mathlib.Omega.{arith}
pub use Rattle.memory.specs.Memory.{Inside, part_at}
unfoldable pub use Rattle.memory.specs.Memory.{memories_ok, place_within}
unfoldable pub use Rattle.memory.specs.Spans.{apart, lies_in, memory_ok}
pub use Rattle.memory.specs.Spans.{longest}
pub use Rattle.page.proofs.Picks.{and_left, and_right, and_yes, pick_no, pick_yes}
pub use Rattle.page.specs.Ground.{false, true}
