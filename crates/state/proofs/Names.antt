-- What the proofs of this crate are written with.
pub use borrow.Author.Rules.{rules}
pub use borrow.Author.Tests.{eq-eqb, le-ltb, lt-leb, lt-ltb, ne_eqb}
pub use lib.ListN.{length-append}
pub use mathlib.Core.Path.{◌∙◌, ap, ap₂, refl, sym}
pub use native.Mathlib.Omega.{arith}
pub use Rattle.page.proofs.Picks.{and_no, and_yes, pick_no, pick_yes}
pub use Rattle.page.specs.Ground.{◌-◌, ◌<◌, take}
pub use Rattle.state.specs.Read.{is_status}
unfoldable pub use Rattle.state.specs.Read.{lane_from, narrowed}
pub use Rattle.state.specs.Parts.{bill_words, meter_words}
unfoldable pub use Rattle.state.specs.Parts.{lock_word}
pub use Rattle.state.specs.State.{device_words, pending_words, state_words}
unfoldable pub use Rattle.state.specs.State.{slot_words}
pub use Rattle.wire.proofs.Placing.{written_fits}
pub use Rattle.std.proofs.lemmas.Bool.Decides.{nat_tests}
unfoldable pub use Rattle.page.specs.Pick.{◌and◌, ◌or◌}
