-- What the definitions of this crate are written with.
pub use Rattle.std.specs.Prelude.{Option, Some, None}
pub use Rattle.std.specs.Prelude.{Float, ◌%◌, ◌*◌, ◌++◌, ◌+◌, ◌/◌, ◌∷◌, ◌≡◌, ◌≤◌}
pub use Rattle.std.specs.Float.{binary64}
pub use Rattle.bank.specs.declared.Bank.{Bank}
pub use Rattle.bill.specs.declared.Bill.{Bill}
unfoldable pub use Rattle.calls.specs.Forms.{access_of}
pub use Rattle.lanes.specs.Lanes.{slots}
pub use Rattle.meters.specs.declared.Meters.{Meters}
pub use Rattle.page.specs.Ground.{Bool, List, [], eqb, get_or, leb, length, ltb, suc, zero, ℕ}
unfoldable pub use Rattle.page.specs.Pick.{◌and◌, ◌or◌, pick}
pub use Rattle.page.specs.Words.{physical, virtual}
pub use Rattle.page.specs.declared.Access.{Access}
pub use Rattle.prices.specs.declared.Price.{Price}
pub use Rattle.prices.specs.declared.Prices.{Prices}
pub use Rattle.prices.specs.declared.Side.{Side}
pub use Rattle.registers.specs.Answers.{fault_bit}
pub use Rattle.registers.specs.declared.Entry.{Entry}
pub use Rattle.registers.specs.declared.Fault.{Fault}
pub use Rattle.registers.specs.declared.Stall.{Stall}
pub use Rattle.registers.specs.Answers.{stall}
pub use Rattle.registers.specs.declared.Registers.{Registers}
pub use Rattle.session.specs.declared.Bench.{Bench}
pub use Rattle.unit.specs.declared.Device.{Device}
pub use Rattle.wire.specs.Words.{halves, high_at, low_at, swapped, wide, word_at}
unfoldable pub use Rattle.wire.specs.Words.{placed, words_put}
