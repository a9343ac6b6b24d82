-- What the definitions of this crate are written with.
pub use Rattle.std.specs.Prelude.{Result, Ok, Err}
pub use Rattle.std.specs.Prelude.{◌*◌, ◌++◌, ◌+◌, ◌∷◌, ◌≡◌}
unfoldable pub use Rattle.calls.specs.Records.{all_good}
pub use Rattle.calls.specs.Records.{call_count, calls_in}
pub use Rattle.calls.specs.declared.Call.{Call}
pub use Rattle.memory.specs.Memory.{Lent, lent, lent_of}
pub use Rattle.page.specs.Ground.{List, [], leb, length, suc, true, zero, ℕ}
unfoldable pub use Rattle.page.specs.Pick.{pick}
pub use Rattle.prices.specs.declared.Prices.{Prices}
pub use Rattle.recording.specs.Reading.{blocks_in, call_bytes, calls_at, heard}
pub use Rattle.recording.specs.declared.Progress.{Progress}
pub use Rattle.run.specs.Answers.{said_words}
pub use Rattle.run.specs.MayRun.{answer_size}
unfoldable pub use Rattle.run.specs.Run.{session_words}
pub use Rattle.session.specs.Bench.{stepped}
pub use Rattle.session.specs.declared.Bench.{Bench}
pub use Rattle.state.specs.State.{state_words}
unfoldable pub use Rattle.wire.specs.Words.{placed}
