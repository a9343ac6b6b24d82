-- What the definitions of this crate are written with.
pub use Rattle.decision.specs.declared.ShiftError.{ShiftError}
pub use Rattle.std.specs.Prelude.{Result, Ok, Err}
pub use Rattle.walk.specs.declared.Unfound.{Unfound}
pub use Rattle.walk.specs.declared.Page.{Page}
pub use Rattle.std.specs.Prelude.{Option, Some, None}
pub use Rattle.std.specs.Prelude.{◌%◌, ◌/◌, ◌<◌, ◌≡◌}
pub use Rattle.bank.specs.Changes.{bank_flushed, bank_flushed_at, copied, entry_filled, loaded, locked_at}
pub use Rattle.bank.specs.InPlace.{IsSpanned}
pub use Rattle.bank.specs.Slots.{fresh_bank}
pub use Rattle.bank.specs.declared.Bank.{Bank}
pub use Rattle.bank.specs.declared.slots.Slots.{Slots}
unfoldable pub use Rattle.bill.specs.Bill.{attempt_posted}
pub use Rattle.bill.specs.Bill.{reads_posted, seen_posted, word_posted}
pub use Rattle.bill.specs.declared.Bill.{Bill}
pub use Rattle.bill.specs.declared.Seen.{Seen}
pub use Rattle.decision.specs.Decisions.{billed, by_match, plainly, settled, tally_of}
unfoldable pub use Rattle.decision.specs.Decisions.{by_access, decided}
unfoldable pub use Rattle.decision.specs.Prefetches.{prefetch_decided}
pub use Rattle.decision.specs.Prefetches.{prefetch_kept, shift_by}
pub use Rattle.decision.specs.declared.Decision.{Decision}
pub use Rattle.decision.specs.declared.Said.{Said}
pub use Rattle.lanes.specs.Lanes.{cam_limit, cams_ok, looked_up}
pub use Rattle.memory.specs.Memory.{Lent, lent, lent_of}
pub use Rattle.memory.specs.Reads.{last_place, word_count}
pub use Rattle.memory.specs.declared.Place.{Place}
pub use Rattle.meters.specs.Posted.{no_tally}
pub use Rattle.meters.specs.declared.Tally.{Tally}
pub use Rattle.page.specs.Ground.{Bool, List, false, true, ℕ}
unfoldable pub use Rattle.page.specs.Pick.{pick}
pub use Rattle.page.specs.Words.{limit, made_words}
pub use Rattle.page.specs.declared.Access.{Access}
pub use Rattle.page.specs.declared.PhysicalAddress.{PhysicalAddress}
pub use Rattle.page.specs.declared.VirtualAddress.{VirtualAddress}
pub use Rattle.perform.specs.declared.After.{After}
pub use Rattle.perform.specs.declared.Charged.{Charged}
pub use Rattle.perform.specs.declared.Performed.{Performed}
unfoldable pub use Rattle.plan.specs.Plans.{setting_at}
pub use Rattle.plan.specs.declared.Plan.{Plan}
pub use Rattle.plan.specs.declared.Reason.{Reason}
pub use Rattle.prices.specs.declared.Prices.{Prices}
unfoldable pub use Rattle.registers.specs.Fields.{cam_address}
pub use Rattle.registers.specs.Fields.{entry_of, fresh_registers, is_on, is_walking, setting, with_copied, with_prefetch, words_of}
unfoldable pub use Rattle.registers.specs.Table.{value_at}
pub use Rattle.registers.specs.declared.Answer.{Answer}
pub use Rattle.registers.specs.declared.Fault.{Fault}
pub use Rattle.registers.specs.declared.Stall.{Stall}
pub use Rattle.registers.specs.Answers.{stall}
pub use Rattle.registers.specs.declared.Registers.{Registers}
pub use Rattle.walk.specs.Descriptors.{Room, physical_of}
pub use Rattle.walk.specs.Walk.{after_second, by_first, walk_within}
unfoldable pub use Rattle.walk.specs.Walk.{read_within}
pub use Rattle.walk.specs.declared.Walked.{Walked}
