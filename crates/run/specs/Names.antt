-- What the definitions of this crate are written with.
pub use Rattle.std.specs.Prelude.{Option, Some, None}
pub use Rattle.std.specs.Prelude.{Result, Ok, Err}
pub use Rattle.decision.specs.declared.ShiftError.{ShiftError}
pub use Rattle.std.specs.Prelude.{◌%◌, ◌*◌, ◌++◌, ◌+◌, ◌^◌, ◌∷◌, ◌≡◌, ◌≤◌}
pub use Rattle.bank.specs.declared.Bank.{Bank}
pub use Rattle.bill.specs.Bill.{bill_ok}
pub use Rattle.bill.specs.declared.Bill.{Bill}
unfoldable pub use Rattle.calls.specs.Records.{all_good}
pub use Rattle.calls.specs.Records.{call_count, calls_in}
pub use Rattle.calls.specs.declared.Call.{Call}
pub use Rattle.decision.specs.declared.Said.{Said}
pub use Rattle.memory.specs.Memory.{Lent, lent, lent_of}
unfoldable pub use Rattle.meters.specs.Posted.{posted}
pub use Rattle.meters.specs.declared.Meters.{Meters}
pub use Rattle.memory.specs.declared.Place.{Place}
pub use Rattle.page.specs.Ground.{Bool, List, [], leb, length, true, ℕ}
unfoldable pub use Rattle.page.specs.Pick.{◌and◌, pick}
pub use Rattle.perform.specs.Performed.{Done}
pub use Rattle.plan.specs.Plans.{drop_plan, read_plan, request_plan, shift_plan, write_plan}
pub use Rattle.plan.specs.declared.Plan.{Plan}
pub use Rattle.prices.specs.declared.Prices.{Prices}
pub use Rattle.decision.specs.Prefetches.{shift_number}
pub use Rattle.registers.specs.Answers.{answer_number, fault_number}
unfoldable pub use Rattle.registers.specs.Table.{command_of}
pub use Rattle.registers.specs.declared.Answer.{Answer}
pub use Rattle.registers.specs.declared.Stall.{Stall}
pub use Rattle.registers.specs.Answers.{stall}
pub use Rattle.registers.specs.declared.Registers.{Registers}
pub use Rattle.session.specs.Bench.{stepped}
pub use Rattle.session.specs.declared.Bench.{Bench}
pub use Rattle.session.specs.declared.Stepped.{Stepped}
pub use Rattle.state.specs.State.{state_words}
pub use Rattle.state.specs.Layout.{state_size}
unfoldable pub use Rattle.unit.specs.Device.{in_range}
pub use Rattle.wire.specs.Signed.{twos}
unfoldable pub use Rattle.wire.specs.Words.{placed, words_put}
pub use Rattle.wire.specs.Words.{wide}
