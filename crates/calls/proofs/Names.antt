-- What the proofs of this crate are written with.
pub use borrow.Author.Rules.{rules}
pub use borrow.Author.Tests.{eq-eqb, le-leb, le-ltb, lt-leb, lt-ltb, ne_eqb}
pub use mathlib.Core.Path.{◌∙◌, ap, ap₂, refl, sym}
pub use native.Mathlib.Omega.{arith}
unfoldable pub use Rattle.calls.specs.Forms.{access_of, drop_by, read_by, request_by, report_by, write_by}
unfoldable pub use Rattle.calls.specs.Kinds.{call_by, call_from}
unfoldable pub use Rattle.calls.specs.Records.{all_good, call_at, call_of, calls_from}
pub use Rattle.calls.specs.Records.{good_calls, is_good}
pub use Rattle.page.proofs.Picks.{and_no, and_right, and_yes, pick_no, pick_yes}
pub use Rattle.page.specs.Ground.{◌-◌, ◌<◌}
pub use Rattle.std.proofs.lemmas.Bool.Decides.{nat_tests}
