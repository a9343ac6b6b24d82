-- What the definitions of this crate are written with.
pub use Rattle.audit.specs.declared.ListError.{ListError}
pub use Rattle.audit.specs.declared.ImageError.{ImageError}
pub use Rattle.builder.specs.declared.BuildError.{BuildError}
pub use Rattle.std.specs.Prelude.{Result, Ok, Err}
pub use Rattle.records.specs.declared.Denial.{Denial}
pub use Rattle.std.specs.Prelude.{Option, Some, None}
pub use Rattle.std.specs.Prelude.{◌%◌, ◌*◌, ◌++◌, ◌+◌, ◌-◌, ◌<◌, ◌∷◌, ◌≡◌}
unfoldable pub use Rattle.audit.specs.Check.{check_of, image_ok, table_in}
pub use Rattle.audit.specs.Check.{verdict_number, verdict_value}
unfoldable pub use Rattle.audit.specs.Groups.{broken}
pub use Rattle.audit.specs.List.{inventory_number, inventory_value}
unfoldable pub use Rattle.audit.specs.List.{list_of}
pub use Rattle.audit.specs.Pages.{pages_in}
pub use Rattle.audit.specs.Statements.{AcceptedExactly}
pub use Rattle.bill.specs.Bill.{f1, fresh_bill}
unfoldable pub use Rattle.bill.specs.Bill.{money_ok}
unfoldable pub use Rattle.builder.specs.Build.{answer_of, build_of, room_ok}
pub use Rattle.builder.specs.Build.{built_number, built_value}
unfoldable pub use Rattle.builder.specs.Image.{image}
pub use Rattle.coherence.specs.Agreement.{plain}
pub use Rattle.coherence.specs.Sessions.{Admitted, BilledCall, after, asked, asks}
pub use Rattle.coherence.specs.Started.{StartedInAnyOrder, TurnsOn, start}
pub use Rattle.conduct.specs.Answered.{AnswersOn, NothingSaid, OffIsVirtual, OneAcknowledgement, PrefetchAnswered, ShiftAnswered}
pub use Rattle.conduct.specs.Filled.{FaultNotCached, LockedKept, NoPageNoFill, OneSlotFilled}
pub use Rattle.conduct.specs.Flushed.{FlushExact}
pub use Rattle.conduct.specs.Held.{FaultDropped, FaultHeld}
pub use Rattle.conduct.specs.Kept.{Frames}
pub use Rattle.conduct.specs.Metered.{WordsBilled, Metered, PostedMeters}
pub use Rattle.conduct.specs.Placed.{ComesFromLast, FromNowhere, PlaceBeside}
pub use Rattle.conduct.specs.Refused.{AcceptedWhen, BenchStays, BytesFit, ExactlyWhen, GoodKept, NothingChanges, RangeKept, ValueFits}
pub use Rattle.conduct.specs.Written.{LoadCopied, LoadThenCopy, ReadBack, ReadShown, ResetFresh}
pub use Rattle.decision.specs.Names.{Access, Answer, Bill, Fault, PhysicalAddress, Prices, VirtualAddress}
pub use Rattle.memory.specs.Memory.{Lent, LentAt, lent_alone, lent_ok}
pub use Rattle.page.specs.Ground.{Bool, List, [], drop, eqb, false, length, ltb, not, replicate, suc, true, zero, ℕ}
pub use Rattle.page.specs.Words.{limit, megabytes, physical, virtual}
pub use Rattle.prices.specs.declared.Price.{Price}
unfoldable pub use Rattle.records.specs.Mappings.{mappings, records_of}
pub use Rattle.records.specs.Mappings.{record_size}
unfoldable pub use Rattle.records.specs.Meanings.{meaning}
pub use Rattle.records.specs.Meanings.{meaning_number, meaning_values}
unfoldable pub use Rattle.records.specs.Refusals.{bad, overlapping}
pub use Rattle.records.specs.Refusals.{begun}
pub use Rattle.registers.specs.Answers.{is_prefetch, is_refusal}
pub use Rattle.registers.specs.declared.Stall.{Stall}
pub use Rattle.registers.specs.Answers.{stall}
unfoldable pub use Rattle.tables.specs.Tables.{image_length}
pub use Rattle.translates.specs.ListA.{base_a, records_a}
pub use Rattle.translates.specs.Statements.{Standing}
unfoldable pub use Rattle.unit.specs.Calls.{request_of, write_of}
pub use Rattle.unit.specs.Machine.{Call, Said, drop-fault, read, request, step, write}
pub use Rattle.registers.specs.Offsets.{lock_at, acknowledge_at, prefetch_at}
pub use Rattle.unit.specs.Refusals.{Clear, First, Refusing}
pub use Rattle.unit.specs.declared.Device.{Device}
pub use Rattle.walk.specs.Uniform.{look_in}
unfoldable pub use Rattle.walk.specs.Descriptors.{first_of}
pub use Rattle.walk.specs.Repeated.{index_limit}
pub use Rattle.walk.specs.declared.First.{First as Entry}
pub use Rattle.walk.specs.declared.Table.{Table}
pub use Rattle.wire.specs.Words.{Bytes, word_at}
