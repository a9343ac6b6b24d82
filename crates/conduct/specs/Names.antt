-- The types that the theorems speak of. Others take them from here.
pub use Rattle.std.specs.Prelude.{ℤ, ◌≢◌, ◌⊎◌, ◌%◌, ◌*◌, ◌+◌, ◌/◌, ◌<◌, ◌^◌, ◌∷◌, ◌≡◌}
pub use Rattle.unit.specs.Names.{Access, VirtualAddress, PhysicalAddress, Words, Lent, lent_ok, Reads, Page, Walked, Tally, Bill, Prices, Seen}
pub use Rattle.unit.specs.Names.{Bank, Fault, Stall, stall, Answer, Decision, Setting, Tending, Command}
pub use Rattle.unit.specs.declared.Device.{Device}
pub use Rattle.unit.specs.declared.Outcome.{Outcome}
pub use Rattle.unit.specs.declared.Told.{Told}
unfoldable pub use Rattle.bank.specs.Changes.{next_slot, next_victim}
pub use Rattle.bank.specs.Slots.{slot_at}
pub use Rattle.bill.specs.Bill.{Good, reads_posted, seen_posted}
pub use Rattle.decision.specs.Prefetches.{page_at, shift_number, shift_values}
pub use Rattle.lanes.specs.Lanes.{looked_up, slots}
pub use Rattle.memory.specs.Reads.{last_place, word_count}
pub use Rattle.memory.specs.declared.Place.{Place}
pub use Rattle.meters.specs.Posted.{BelowStop, no_tally}
unfoldable pub use Rattle.meters.specs.Posted.{posted}
pub use Rattle.page.specs.Ground.{Bool, List, [], eqb, false, get_or, length, not, true, ℕ}
unfoldable pub use Rattle.page.specs.Pick.{◌and◌, pick}
pub use Rattle.page.specs.Words.{limit, made_words, permits, physical, word_access, word_preserved, word_valid}
unfoldable pub use Rattle.page.specs.Words.{word_address, word_matches}
pub use Rattle.registers.specs.Answers.{fault_address, fault_status, is_prefetch, is_refusal}
unfoldable pub use Rattle.registers.specs.Fields.{cam_address}
pub use Rattle.registers.specs.Fields.{entry_of, is_on, is_walking, words_of}
unfoldable pub use Rattle.registers.specs.Table.{listed}
pub use Rattle.unit.specs.Calls.{drop_refusals, may_walk, no_match, read_refusals, request_refusals, shift_refusals, write_refusals}
pub use Rattle.unit.specs.Device.{cleared, done_with, fresh_device, look}
unfoldable pub use Rattle.unit.specs.Device.{in_range}
pub use Rattle.unit.specs.Machine.{Bench, Call, Said, Step, drop-fault, read, request, run, said_number, shift, step, step_out, write}
pub use Rattle.registers.specs.Offsets.{acknowledge_at, base_high_at, base_low_at, cam_high_at, cam_low_at, control_at, entry_flush_at, fault_high_at, fault_low_at}
pub use Rattle.registers.specs.Offsets.{fault_status_at, flush_at, load_at, lock_at, prefetch_at, ram_high_at, ram_low_at, read_cam_high_at, read_cam_low_at}
pub use Rattle.registers.specs.Offsets.{read_ram_high_at, read_ram_low_at, walk_status_at}
pub use Rattle.unit.specs.Refusals.{Clear, First, Refusals}
pub use Rattle.walk.specs.Descriptors.{distance_of, found_number, physical_of}
pub use Rattle.walk.specs.Statements.{LastLies, moved_walked, nowhere}
