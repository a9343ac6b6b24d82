-- What the definitions of this crate are written with.
pub use Rattle.std.specs.Prelude.{Result, Ok, Err}
pub use Rattle.builder.specs.declared.BuildError.{BuildError}
pub use Rattle.std.specs.Prelude.{◌*◌, ◌++◌, ◌+◌, ◌-◌, ◌/◌, ◌∷◌, ◌≡◌}
pub use Rattle.bill.specs.Bill.{fresh_bill}
unfoldable pub use Rattle.builder.specs.Build.{answer_of, build_of}
pub use Rattle.builder.specs.Build.{built_number, built_value}
pub use Rattle.demands.specs.Buyer.{prices_a, room_a, start_a}
pub use Rattle.memory.specs.Memory.{lent_alone}
pub use Rattle.lanes.specs.Lanes.{slots}
pub use Rattle.memory.specs.Memory.{Lent}
pub use Rattle.memory.specs.declared.Place.{Place}
pub use Rattle.page.specs.Ground.{Bool, List, [], drop, eqb, false, get_or, replicate, suc, take, true, zero, ℕ}
unfoldable pub use Rattle.page.specs.Pick.{◌and◌}
pub use Rattle.page.specs.Words.{virtual, word_valid}
pub use Rattle.registers.specs.Answers.{answer_number, answer_values}
pub use Rattle.registers.specs.Fields.{entry_of}
pub use Rattle.translates.specs.ListA.{base_a, records_a}
unfoldable pub use Rattle.unit.specs.Calls.{request_of, write_of}
pub use Rattle.unit.specs.Names.{Access, Answer, Bank, Entry}
pub use Rattle.registers.specs.Offsets.{lock_at}
pub use Rattle.unit.specs.declared.Device.{Device}
pub use Rattle.unit.specs.declared.Outcome.{Outcome}
unfoldable pub use Rattle.walk.specs.Descriptors.{first_of}
pub use Rattle.walk.specs.declared.First.{First}
unfoldable pub use Rattle.wire.specs.Words.{word_of}
