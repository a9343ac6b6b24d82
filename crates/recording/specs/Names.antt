-- What the definitions of this crate are written with.
pub use Rattle.recording.specs.declared.RecordingError.{RecordingError}
pub use Rattle.std.specs.Prelude.{Result, Ok, Err}
pub use Rattle.std.specs.Prelude.{◌%◌, ◌*◌, ◌++◌, ◌+◌, ◌-◌, ◌/◌, ◌<◌, ◌^◌, ◌∷◌, ◌≡◌, ◌≤◌}
unfoldable pub use Rattle.calls.specs.Records.{all_good, call_at}
pub use Rattle.calls.specs.Records.{call_count, call_size, is_good}
unfoldable pub use Rattle.crc.specs.Crc.{crc32}
pub use Rattle.crc.specs.Crc.{IsTable}
pub use Rattle.page.specs.Ground.{Bool, List, [], drop, eqb, false, get_or, leb, length, ltb, min, not}
pub use Rattle.page.specs.Ground.{replicate, set, suc, take, true, zero, ℕ}
unfoldable pub use Rattle.page.specs.Pick.{◌and◌, pick}
pub use Rattle.recording.specs.declared.Flaw.{Flaw}
pub use Rattle.recording.specs.declared.Progress.{Progress}
pub use Rattle.wire.specs.Words.{Bytes, halves, high_at, low_at, word_at, word_bytes}
unfoldable pub use Rattle.wire.specs.Words.{pasted}
