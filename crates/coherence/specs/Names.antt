-- What the definitions of this crate are written with.
pub use Rattle.std.specs.Prelude.{◌%◌, ◌*◌, ◌+◌, ◌/◌, ◌<◌, ◌^◌, ◌∷◌, ◌≡◌}
pub use Rattle.bank.specs.Slots.{fresh_bank}
unfoldable pub use Rattle.bill.specs.Bill.{money_ok}
unfoldable pub use Rattle.decision.specs.Decisions.{by_access}
pub use Rattle.decision.specs.Decisions.{by_walk}
pub use Rattle.decision.specs.Names.{Access, Answer, Bill, Fault, Lent, Stall, stall, Prices, VirtualAddress, lent_ok}
pub use Rattle.lanes.specs.Lanes.{slots}
pub use Rattle.page.specs.Ground.{Bool, List, [], eqb, false, get_or, length, not, true, ℕ}
unfoldable pub use Rattle.page.specs.Pick.{◌and◌, pick}
pub use Rattle.page.specs.Words.{limit, physical, word_access}
unfoldable pub use Rattle.page.specs.Words.{word_address, word_matches}
pub use Rattle.registers.specs.Answers.{is_prefetch, is_refusal}
pub use Rattle.registers.specs.Fields.{is_on, is_walking, no_entry}
pub use Rattle.unit.specs.Calls.{one_of}
unfoldable pub use Rattle.unit.specs.Calls.{request_of, write_of}
pub use Rattle.unit.specs.Device.{fresh_device}
unfoldable pub use Rattle.unit.specs.Device.{in_range}
pub use Rattle.unit.specs.Machine.{Call, Said, drop-fault, read, request, shift, step, write}
pub use Rattle.registers.specs.Offsets.{acknowledge_at, base_high_at, base_low_at, control_at}
pub use Rattle.unit.specs.declared.Device.{Device}
pub use Rattle.walk.specs.Distances.{is_missing}
pub use Rattle.walk.specs.Uniform.{Look}
