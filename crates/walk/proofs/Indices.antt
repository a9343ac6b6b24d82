-- Where the first word stands. Assumes nothing.
use Rattle.walk.specs.Names.{megabytes, ◌≡◌, ℕ, ◌+◌, ◌*◌, ◌/◌, ◌%◌, ◌^◌, ◌<◌, upper}
use Rattle.walk.proofs.Names.{ap₂, arith, base_bits, first_at}
use native.Mathlib.Nat.{mod-eq_of_lt}

-- rounding the base and the index does nothing where the base is aligned and the index in the table
pub first_at_lem : (j n base va : ℕ) → upper j base ≡ base → va / 2 ^ 20 < n → first_at j n base va ≡ base + 4 * (va / 2 ^ 20)
unfolding first_at
first_at_lem j n base va e h = ap₂ (λ (b i : ℕ). b + 4 * i) e (mod-eq_of_lt h)

pub aligned : (b : ℕ) → b % 128 ≡ 0 → upper base_bits b ≡ b
unfolding upper
aligned b e = omega (arith, e)

pub first_at_legal : (base va : ℕ) → base % 128 ≡ 0 → va < 2 ^ 24 → first_at base_bits megabytes base va ≡ base + 4 * (va / 2 ^ 20)
first_at_legal base va e h = first_at_lem base_bits megabytes base va (aligned base e) (omega arith)
