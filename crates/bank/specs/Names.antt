-- What the definitions of this crate are written with.
pub use Rattle.std.specs.Prelude.{Option, Some, None}
pub use Rattle.std.specs.Prelude.{◌%◌, ◌*◌, ◌+◌, ◌/◌, ◌<◌, ◌≡◌}
pub use Rattle.bank.specs.declared.Bank.{Bank}
pub use Rattle.lanes.specs.Lanes.{cam_limit, cams_ok, looked_up, rams_ok, slots}
unfoldable pub use Rattle.lanes.specs.Lanes.{flushed_all, flushed_entry}
pub use Rattle.page.specs.Ground.{Bool, List, eqb, get_or, leb, length, ltb, min, replicate, set, suc, zero, ℕ}
unfoldable pub use Rattle.page.specs.Pick.{◌and◌, pick}
pub use Rattle.page.specs.Words.{limit}
pub use Rattle.page.specs.declared.VirtualAddress.{VirtualAddress}
pub use Rattle.page.specs.declared.Words.{Words}
