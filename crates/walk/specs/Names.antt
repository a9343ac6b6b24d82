-- What the definitions of this crate are written with.
pub use Rattle.std.specs.Prelude.{Result, Ok, Err, Option, Some, None, ◌-ℤ◌, pos, ℤ, ◌%◌, ◌*◌, ◌+◌, ◌-◌, ◌/◌, ◌<◌, ◌^◌, ◌≡◌}
pub use Rattle.walk.specs.declared.Unfound.{Unfound}
pub use Rattle.memory.specs.Memory.{Lent, fetched_in, fetched_within, lent, lent_of}
unfoldable pub use Rattle.memory.specs.Memory.{place_in, place_within}
pub use Rattle.memory.specs.declared.Place.{Place}
pub use Rattle.memory.specs.declared.Reads.{Reads}
pub use Rattle.memory.specs.declared.Source.{Source}
pub use Rattle.page.specs.Ground.{Bool, eqb, false, true, ℕ}
unfoldable pub use Rattle.page.specs.Low.{joined, upper}
unfoldable pub use Rattle.page.specs.Pick.{pick}
pub use Rattle.page.specs.Words.{low_bits, megabytes, physical}
pub use Rattle.page.specs.declared.Kind.{Kind}
pub use Rattle.page.specs.declared.PhysicalAddress.{PhysicalAddress}
pub use Rattle.page.specs.declared.VirtualAddress.{VirtualAddress}
pub use Rattle.walk.specs.declared.First.{First}
pub use Rattle.walk.specs.declared.Page.{Page}
pub use Rattle.walk.specs.declared.Table.{Table}
pub use Rattle.walk.specs.declared.Walked.{Walked}
unfoldable pub use Rattle.wire.specs.Words.{word_of}
