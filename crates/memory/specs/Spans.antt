-- Spans of addresses (01, "The unit", third paragraph; "When the unit says no", 4): which memories are refused,
-- and which bytes a memory holds.
use Rattle.std.specs.Prelude.{◌+◌, ◌-◌, ◌%◌, ◌^◌, Option, Some, None}
use Rattle.memory.specs.Names.{ℕ, Bool, eqb, leb, ◌and◌, ◌or◌, pick}

-- the greatest length of a memory
abbrev pub longest : ℕ
longest = 131072

-- base and length are multiples of 4, the length is not over the greatest, the end is not over 2^32
unfoldable pub memory_ok : ℕ → ℕ → Bool
memory_ok base n = eqb (base % 4) 0 and eqb (n % 4) 0 and leb n longest and leb (base + n) (2 ^ 32)

-- the n bytes at b and the m bytes at c share no address; no bytes share none
unfoldable pub apart : ℕ → ℕ → ℕ → ℕ → Bool
apart b n c m = eqb n 0 or eqb m 0 or leb (b + n) c or leb (c + m) b

-- two memories that refusal 4 does not hold of
unfoldable pub memories_ok : ℕ → ℕ → ℕ → ℕ → Bool
memories_ok b n c m = memory_ok b n and memory_ok c m and apart b n c m

-- the four bytes at a lie in the n bytes at b
unfoldable pub lies_in : ℕ → ℕ → ℕ → Bool
lies_in b n a = leb b a and leb (a + 4) (b + n)

-- where in them those begin, if they lie there
abbrev pub offset_in : ℕ → ℕ → ℕ → Option ℕ
offset_in b n a = pick (lies_in b n a) (Some (a - b)) None
