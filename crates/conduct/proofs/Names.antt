-- What the proofs of this crate are written with.
pub use borrow.Author.Tests.{eq-eqb, eqb-false, leb-false, lt-ltb, ne_eqb, not-false}
pub use mathlib.Core.Bool.{false≢true, true≢false}
pub use mathlib.Core.Path.{◌∙◌, ap, ap₂, refl, subst, sym}
pub use native.Mathlib.Omega.{arith}
pub use Rattle.bank.proofs.Fills.{fill_lock}
pub use Rattle.bank.proofs.Ranges.{in_range_lem}
pub use Rattle.bank.specs.Changes.{entry_filled}
unfoldable pub use Rattle.bank.specs.Slots.{bank_ok}
pub use Rattle.conduct.specs.Answered.{LowestMatch}
pub use Rattle.conduct.specs.Attempted.{Attempted, attempted, attempt, nothing, prefetch, retry_attempted}
unfoldable pub use Rattle.conduct.specs.Attempted.{reads_for, walks_for, write_attempted}
pub use Rattle.conduct.specs.Filled.{LanesFit, page_fill}
unfoldable pub use Rattle.conduct.specs.Filled.{fill_for}
pub use Rattle.conduct.specs.Metered.{bill_asked, tally_attempted}
unfoldable pub use Rattle.conduct.specs.Metered.{seen_for}
pub use Rattle.conduct.specs.Refused.{Accepted, BytesFit, Unchanged, said_refused}
pub use Rattle.decision.proofs.Joins.{decided-on}
unfoldable pub use Rattle.decision.specs.Decisions.{by_access, by_found, decided}
pub use Rattle.decision.specs.Decisions.{by_matched, metered_once, settled}
unfoldable pub use Rattle.decision.specs.Prefetches.{prefetch_decided, prefetch_found}
pub use Rattle.decision.specs.Prefetches.{prefetch_kept, prefetch_matched, shift_by}
pub use Rattle.lanes.proofs.Searches.{found}
unfoldable pub use Rattle.lanes.specs.Lanes.{all_from}
unfoldable pub use Rattle.memory.specs.Memory.{place_in}
pub use Rattle.page.proofs.Picks.{and_left, and_right, and_yes, or_no, or_yes, pick_by, pick_no, pick_yes}
pub use Rattle.page.specs.Ground.{leb, take}
unfoldable pub use Rattle.page.specs.Pick.{◌or◌}
unfoldable pub use Rattle.page.specs.Words.{word_flushed, word_flushed_at}
pub use Rattle.registers.proofs.Rows.{by_offset}
pub use Rattle.registers.proofs.Ranges.{registers_in-range}
pub use Rattle.registers.specs.Fields.{pending_ok}
unfoldable pub use Rattle.registers.specs.Fields.{registers_ok}
unfoldable pub use Rattle.registers.specs.Table.{command_of, control_command, load_command, lock_command, no_register, value_at, when_bit}
pub use Rattle.unit.proofs.Refusing.{clear_goes_on, refuses_by}
pub use Rattle.unit.specs.Calls.{carried, prefetched, retried}
unfoldable pub use Rattle.unit.specs.Calls.{drop_of, is_malformed, is_untimely, lacks, read_of, request_of, shift_of, write_lacks, write_of}
pub use Rattle.unit.specs.Device.{attempt_of, decided_by, refused_with, set_bank, told, told_refused}
unfoldable pub use Rattle.unit.specs.Refusals.{refuses}
unfoldable pub use Rattle.walk.specs.Descriptors.{first_of}
pub use Rattle.walk.specs.Distances.{is_missing}
unfoldable pub use Rattle.walk.specs.Walk.{read_in, walk_from}
unfoldable pub use Rattle.wire.specs.Words.{word_of}
