-- What the definitions of this crate are written with.
pub use Rattle.recording.specs.declared.RecordingError.{RecordingError}
pub use Rattle.audit.specs.declared.ListError.{ListError}
pub use Rattle.audit.specs.declared.ImageError.{ImageError}
pub use Rattle.std.specs.Prelude.{Result, Ok, Err}
pub use Rattle.builder.specs.declared.BuildError.{BuildError}
pub use Rattle.std.specs.Prelude.{Float, ◌%◌, ◌*◌, ◌++◌, ◌+◌, ◌^◌, ◌∷◌, ◌≡◌, ◌≤◌}
unfoldable pub use Rattle.audit.specs.Check.{check_of}
pub use Rattle.audit.specs.Check.{verdict_number, verdict_value}
unfoldable pub use Rattle.audit.specs.List.{list_of}
pub use Rattle.audit.specs.List.{inventory_number, inventory_value}
unfoldable pub use Rattle.builder.specs.Build.{build_of}
pub use Rattle.builder.specs.Build.{built_number, built_value}
unfoldable pub use Rattle.crc.specs.Crc.{crc32}
pub use Rattle.memory.specs.Memory.{Lent, fetched_in, lent, lent_of}
unfoldable pub use Rattle.memory.specs.Memory.{place_in}
pub use Rattle.memory.specs.declared.Place.{Place}
pub use Rattle.page.specs.Ground.{List, leb, length, ℕ}
unfoldable pub use Rattle.page.specs.Pick.{pick}
pub use Rattle.page.specs.Words.{megabytes}
pub use Rattle.parting.specs.Parting.{comparison_number, comparison_owner, comparison_start, comparison_words, owner_number}
unfoldable pub use Rattle.parting.specs.Parting.{comparison_of}
pub use Rattle.parting.specs.declared.Parting.{Parting}
pub use Rattle.std.specs.Prelude.{Option, Some, None}
pub use Rattle.parting.specs.declared.Owner.{Owner}
pub use Rattle.prices.specs.declared.Prices.{Prices}
unfoldable pub use Rattle.recording.specs.Reading.{recording_read}
unfoldable pub use Rattle.recording.specs.Writing.{recording_written}
pub use Rattle.recording.specs.Writing.{written_number, written_value}
pub use Rattle.run.specs.Answers.{cut_place, place_code}
pub use Rattle.run.specs.Run.{Ran, ran}
unfoldable pub use Rattle.run.specs.Run.{run_with}
pub use Rattle.session.specs.Bench.{fresh_bench}
pub use Rattle.state.specs.Read.{bench_in, lock_in, prices_of}
unfoldable pub use Rattle.state.specs.Read.{is_state}
unfoldable pub use Rattle.wire.specs.Words.{word_of, words_put}
pub use Rattle.wire.specs.Words.{wide}
