-- The types that the unit is written with. Others take them from here.
pub use Rattle.decision.specs.declared.ShiftError.{ShiftError}
pub use Rattle.std.specs.Prelude.{Result, Ok, Err}
pub use Rattle.walk.specs.declared.Unfound.{Unfound}
pub use Rattle.std.specs.Prelude.{Option, Some, None}
pub use Rattle.decision.specs.Names.{Access, VirtualAddress, PhysicalAddress, Words, Lent, lent, lent_of, lent_ok, Reads, Page, Walked, Tally, Bill}
pub use Rattle.decision.specs.Names.{Prices, Seen, Bank, Fault, Stall, stall, Answer}
pub use Rattle.decision.specs.declared.Decision.{Decision}
pub use Rattle.registers.specs.declared.Entry.{Entry}
pub use Rattle.registers.specs.declared.Registers.{Registers}
pub use Rattle.registers.specs.declared.Setting.{Setting}
pub use Rattle.registers.specs.declared.Tending.{Tending}
pub use Rattle.registers.specs.declared.Command.{Command}
pub use Rattle.unit.specs.declared.Device.{Device}
pub use Rattle.unit.specs.declared.Outcome.{Outcome}
pub use Rattle.unit.specs.declared.Told.{Told}
pub use Rattle.unit.specs.declared.Reported.{Reported}
pub use Rattle.std.specs.Prelude.{◌⊎◌, ◌%◌, ◌/◌, ◌^◌, ◌∷◌, ◌≡◌}
pub use Rattle.bank.specs.Changes.{copied, entry_filled, loaded}
unfoldable pub use Rattle.bank.specs.Slots.{bank_ok}
pub use Rattle.bank.specs.Slots.{fresh_bank}
unfoldable pub use Rattle.bill.specs.Bill.{money_ok}
pub use Rattle.decision.specs.Decisions.{billed, settled, tally_of}
unfoldable pub use Rattle.decision.specs.Decisions.{decided}
pub use Rattle.decision.specs.Prefetches.{page_at, prefetch_kept, shift_by, shift_number}
unfoldable pub use Rattle.decision.specs.Prefetches.{prefetch_decided}
pub use Rattle.decision.specs.declared.Said.{Said}
pub use Rattle.lanes.specs.Lanes.{looked_up, slots}
pub use Rattle.memory.specs.Reads.{last_place, word_count}
pub use Rattle.memory.specs.declared.Place.{Place}
pub use Rattle.meters.specs.Posted.{no_tally}
unfoldable pub use Rattle.meters.specs.Posted.{posted}
pub use Rattle.meters.specs.declared.Meters.{Meters}
pub use Rattle.page.specs.Ground.{Bool, List, [], eqb, false, leb, not, true, ℕ}
unfoldable pub use Rattle.page.specs.Pick.{◌and◌, ◌or◌, pick}
pub use Rattle.page.specs.Words.{limit}
pub use Rattle.perform.specs.Performed.{Done, Fit, performed, quietly, uncharged}
pub use Rattle.plan.specs.declared.Plan.{Plan}
pub use Rattle.registers.specs.Answers.{idle, is_prefetch, answer_number}
pub use Rattle.registers.specs.Fields.{entry_of, fresh_registers, is_on, is_walking, pending_ok, setting, with_copied, with_prefetch, words_of}
unfoldable pub use Rattle.registers.specs.Fields.{registers_ok}
unfoldable pub use Rattle.registers.specs.Table.{command_of, no_register, value_at}
pub use Rattle.registers.specs.Table.{tended}
pub use Rattle.unit.specs.declared.Acted.{Acted}
pub use Rattle.walk.specs.Distances.{is_missing}
pub use Rattle.walk.specs.Walk.{walk_in}
