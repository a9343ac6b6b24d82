-- The types that decisions are written with, and their cases: the same aliases everywhere. Others take them from here.
pub use Rattle.decision.specs.declared.ShiftError.{ShiftError}
pub use Rattle.std.specs.Prelude.{Result, Ok, Err, Option, Some, None, ℤ, ◌%◌, ◌*◌, ◌^◌, ◌∷◌, ◌≡◌}
pub use Rattle.walk.specs.declared.Unfound.{Unfound}
pub use Rattle.page.specs.declared.Access.{Access}
pub use Rattle.page.specs.declared.VirtualAddress.{VirtualAddress}
pub use Rattle.page.specs.declared.PhysicalAddress.{PhysicalAddress}
pub use Rattle.page.specs.declared.Words.{Words}
pub use Rattle.memory.specs.Memory.{Lent, lent, lent_of, lent_ok}
pub use Rattle.memory.specs.declared.Reads.{Reads}
pub use Rattle.walk.specs.declared.Page.{Page}
pub use Rattle.walk.specs.declared.Walked.{Walked}
pub use Rattle.meters.specs.declared.Tally.{Tally}
pub use Rattle.bill.specs.declared.Bill.{Bill}
pub use Rattle.prices.specs.declared.Prices.{Prices}
pub use Rattle.bill.specs.declared.Seen.{Seen}
pub use Rattle.bank.specs.declared.Bank.{Bank}
pub use Rattle.registers.specs.declared.Fault.{Fault}
pub use Rattle.registers.specs.declared.Stall.{Stall}
pub use Rattle.registers.specs.Answers.{stall}
pub use Rattle.registers.specs.declared.Answer.{Answer}
pub use Rattle.decision.specs.declared.Decision.{Decision}
pub use Rattle.bill.specs.Bill.{reads_posted, seen_posted}
pub use Rattle.lanes.specs.Lanes.{looked_up}
pub use Rattle.meters.specs.Posted.{no_tally}
pub use Rattle.page.specs.Ground.{Bool, List, [], false, get_or, true, ℕ}
unfoldable pub use Rattle.page.specs.Pick.{pick}
pub use Rattle.page.specs.Words.{made_words, permits, physical, virtual, word_access}
unfoldable pub use Rattle.page.specs.Words.{word_address}
pub use Rattle.registers.specs.Fields.{is_on, is_walking}
pub use Rattle.walk.specs.Descriptors.{distance_of, physical_of}
