-- An address's upper bits and its n lower ones, for any n.
use Rattle.std.specs.Prelude.{◌+◌, ◌*◌, ◌/◌, ◌%◌, ◌^◌}
use Rattle.page.specs.Ground.{ℕ, Bool, eqb}

-- x with its n lower bits zero: where its page of 2^n bytes starts
unfoldable pub upper : ℕ → ℕ → ℕ
upper n x = x / 2 ^ n * 2 ^ n

-- a and b agree above their n lower bits: they lie in one page
abbrev pub agree : ℕ → ℕ → ℕ → Bool
agree n a b = eqb (a / 2 ^ n) (b / 2 ^ n)

-- the upper bits of a and the n lower bits of b
unfoldable pub joined : ℕ → ℕ → ℕ → ℕ
joined n a b = upper n a + b % 2 ^ n
