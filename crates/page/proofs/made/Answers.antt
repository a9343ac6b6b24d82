use Rattle.page.proofs.Lower.{upper-le}
use Rattle.page.proofs.Slot.{start_1024}
use Rattle.page.specs.Words.{low_bits}
use native.Mathlib.Omega.{arith}
use Rattle.page.proofs.made.Goals as goal

pub overflow_add-result-3 : goal.overflow_add-result-3
overflow_add-result-3 c =
    record { fits = omega (arith, c.page_start-2.ensures, start_1024 c.args.k c.args.frame.0, upper-le (low_bits c.args.k) c.args.frame.0) }
