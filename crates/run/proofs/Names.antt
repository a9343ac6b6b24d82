-- What the proofs of this crate are written with.
pub use borrow.Author.Rules.{rules}
pub use borrow.Author.Tests.{le-leb, lt-leb, not-false, not-true}
pub use mathlib.Core.Path.{◌∙◌, ap, ap₂, refl, sym}
pub use native.Mathlib.Omega.{arith}
unfoldable pub use Rattle.bill.specs.Bill.{money_ok}
unfoldable pub use Rattle.calls.specs.Records.{call_at}
pub use Rattle.calls.specs.Records.{is_good}
pub use Rattle.conduct.specs.Refused.{BytesFit}
pub use Rattle.memory.specs.Memory.{lent_ok}
pub use Rattle.page.proofs.Picks.{and_right}
pub use Rattle.page.specs.Ground.{◌-◌, ◌/◌, ◌<◌}
pub use Rattle.perform.specs.Performed.{Fit, performed}
pub use Rattle.run.specs.Answers.{said_words}
unfoldable pub use Rattle.run.specs.MayRun.{may_run}
pub use Rattle.run.specs.MayRun.{run_size}
pub use Rattle.run.specs.Planned.{bench_done, bench_of, parts_ok, plan_of}
unfoldable pub use Rattle.run.specs.Run.{session_words}
