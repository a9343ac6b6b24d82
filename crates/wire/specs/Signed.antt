-- A signed number as 64 bits.
use Rattle.std.specs.Prelude.{◌-◌, ◌^◌}
use Rattle.wire.specs.Names.{ℕ, ℤ, pos, negsuc}

-- 64 bits in two's complement: -1 - n is 2^64 - 1 - n
abbrev pub twos : ℤ → ℕ
twos (pos n) = n
twos (negsuc n) = 2 ^ 64 - 1 - n
