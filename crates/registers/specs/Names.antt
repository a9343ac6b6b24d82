-- What the definitions of this crate are written with.
pub use Rattle.std.specs.Prelude.{Option, Some, None, ◌%◌, ◌*◌, ◌+◌, ◌/◌, ◌^◌, ◌∷◌, ◌≡◌}
pub use Rattle.bank.specs.Changes.{bank_flushed, bank_flushed_at, locked_at}
pub use Rattle.bank.specs.declared.Bank.{Bank}
pub use Rattle.lanes.specs.Lanes.{slots}
pub use Rattle.page.specs.Ground.{Bool, List, [], eqb, false, leb, ltb, not, true, ℕ}
unfoldable pub use Rattle.page.specs.Pick.{◌and◌, pick}
pub use Rattle.page.specs.Words.{limit, physical, virtual}
pub use Rattle.page.specs.declared.Access.{Access}
pub use Rattle.page.specs.declared.VirtualAddress.{VirtualAddress}
pub use Rattle.page.specs.declared.Words.{Words}
pub use Rattle.registers.specs.declared.Answer.{Answer}
pub use Rattle.registers.specs.declared.Command.{Command}
pub use Rattle.registers.specs.declared.Entry.{Entry}
pub use Rattle.registers.specs.declared.Fault.{Fault}
pub use Rattle.registers.specs.declared.Stall.{Stall}
pub use Rattle.registers.specs.declared.Registers.{Registers}
pub use Rattle.registers.specs.declared.Setting.{Setting}
pub use Rattle.registers.specs.declared.Tending.{Tending}
