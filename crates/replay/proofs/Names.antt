-- What the proofs of this crate are written with.
pub use borrow.Author.Rules.{rules}
pub use borrow.Author.Tests.{eq-eqb, le-leb, lt-leb}
pub use lib.ListN.{length-append}
pub use mathlib.Core.Path.{◌∙◌, ap, ap₂, refl, sym}
pub use native.Mathlib.Omega.{arith}
unfoldable pub use Rattle.calls.specs.Records.{call_at, calls_from}
pub use Rattle.calls.specs.Records.{good_calls}
pub use Rattle.page.proofs.Picks.{and_right, and_yes, pick_no, pick_yes}
pub use Rattle.page.specs.Ground.{◌%◌, ◌-◌, ◌<◌, ◌≤◌, drop, take}
unfoldable pub use Rattle.recording.specs.Blocks.{pieces}
unfoldable pub use Rattle.replay.specs.Blocks.{block_bench, block_words}
unfoldable pub use Rattle.replay.specs.Replay.{answers_of, bench_behind, replay_of}
pub use Rattle.replay.specs.Replay.{Replayed, replayed}
