-- What the proofs of this crate are written with.
pub use borrow.Author.Tests.{ne_eqb}
pub use mathlib.Core.Path.{◌∙◌, ap, ap₂, refl, subst, sym}
pub use native.Mathlib.Omega.{arith}
pub use Rattle.page.proofs.Picks.{pick_no, pick_yes}
pub use Rattle.walk.specs.Descriptors.{Room, page_of, physical_of}
unfoldable pub use Rattle.walk.specs.Descriptors.{first_of, second_of}
pub use Rattle.walk.specs.Distances.{Proper, ProperFirst, is_missing}
pub use Rattle.walk.specs.Walk.{after_first, after_second, base_bits, by_first, read_at, source_at, walk_in, walk_within}
unfoldable pub use Rattle.walk.specs.Walk.{coarse_at, fine_at, first_at, read_in, read_within, walk_from}
