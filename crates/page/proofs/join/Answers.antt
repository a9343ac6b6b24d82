use Rattle.page.proofs.Lower.{upper-le, joined-lt, joined_parts}
use Rattle.page.proofs.Slot.{low_bits-le}
use Rattle.page.specs.Words.{physical, low_bits}
use mathlib.Core.Path.{sym, subst, ap}
use native.Mathlib.Omega.{arith}
use Prim.Native.Nat.{ℕ, ◌^◌, ◌<◌}
use Rattle.page.proofs.join.Goals as goal

pub overflow_sub-result : goal.overflow_sub-result
overflow_sub-result c = let a = c.args in
    omega (arith, c.page_start-2.ensures, upper-le (low_bits a.k) a.va.0)

pub overflow_add-result : goal.overflow_add-result
overflow_add-result c =
    let k = c.args.k in
    record {
      fits = subst (λ (s : ℕ). s < 2 ^ 32)
          (sym (joined_parts _ _ _ _ _ c.page_start.ensures c.page_start-2.ensures))
          (joined-lt (low_bits k) 32 _ _ (omega (arith, low_bits-le k)) (omega arith));
    }

pub returns : goal.returns
returns c = ap physical (joined_parts _ _ _ _ _ c.page_start.ensures c.page_start-2.ensures)
