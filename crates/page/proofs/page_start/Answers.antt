use Rattle.page.specs.Low.{upper}
use Rattle.page.proofs.Lower.{shifted}
use Rattle.page.proofs.Slot.{low_bits-le}
use mathlib.Core.Path.{◌∙◌, ap}
use native.Mathlib.Omega.{arith}
use Prim.Native.Nat.{ℕ}
use Rattle.page.proofs.page_start.Goals as goal

pub overflow_shr-result : goal.overflow_shr-result
overflow_shr-result c = omega (arith, c.low_bits-n.ensures, low_bits-le c.args.k)

pub overflow_shl-result : goal.overflow_shl-result
overflow_shl-result c = omega (arith, c.low_bits-n.ensures, low_bits-le c.args.k)

pub returns : goal.returns
returns c =
    shifted c.low_bits-n.result 32 c.args.x (omega arith) ∙ ap (λ (n : ℕ). upper n c.args.x) c.low_bits-n.ensures
