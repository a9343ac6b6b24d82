-- The page numbers (address bits 23:10) that a slot matches, from its lowest to its highest, and the search over them.
use Rattle.std.specs.Prelude.{Option, Some, None}
use Rattle.std.specs.Prelude.{◌+◌, ◌*◌, ◌/◌, ◌%◌, ◌<◌, ◌≡◌}
use Rattle.bank.specs.Names.{ℕ, zero, suc, Bool, List, eqb, leb, get_or, pick, ◌and◌}

-- by the type of a word, one of four
abbrev pub by_type : ℕ → ℕ → ℕ → ℕ → ℕ → ℕ
by_type w a b c d = pick (eqb (w % 4) 0) a (pick (eqb (w % 4) 1) b (pick (eqb (w % 4) 2) c d))

-- the lowest number that a slot matches; past all numbers where it is not valid
unfoldable pub low_of : ℕ → ℕ
low_of w = pick (eqb (w / 4 % 2) 0) 16384 (by_type w (w / 16384 % 16 * 1024) (w / 1024 % 256 * 64) (w / 64 % 4096 * 4) (w / 16 % 16384))

-- the highest
unfoldable pub high_of : ℕ → ℕ
high_of w = pick (eqb (w / 4 % 2) 0) 0 (by_type w (w / 16384 % 16 * 1024 + 1023) (w / 1024 % 256 * 64 + 63) (w / 64 % 4096 * 4 + 3) (w / 16 % 16384))

-- a number lies in a span
abbrev pub in_span : ℕ → ℕ → ℕ → Bool
in_span low high x = leb low x and leb x high

-- the first of the n slots from i whose span has a number
unfoldable pub sought_from : ℕ → ℕ → List ℕ → List ℕ → ℕ → Option ℕ
sought_from zero i lows highs x = None
sought_from (suc n) i lows highs x = pick (in_span (get_or lows i 0) (get_or highs i 0) x) (Some i) (sought_from n (i + 1) lows highs x)

abbrev pub sought : List ℕ → List ℕ → ℕ → Option ℕ
sought lows highs x = sought_from 32 0 lows highs x

-- each of two lanes has the end of each slot's span
abbrev pub Ends : (ℕ → ℕ) → ℕ → List ℕ → List ℕ → Type 0
Ends f n cam ends = (j : ℕ) → j < n → get_or ends j 0 ≡ f (get_or cam j 0)

-- the ends of a slot that is as it was, or no longer valid
abbrev pub low_kept : ℕ → ℕ → ℕ
low_kept w low = pick (eqb (w / 4 % 2) 0) 16384 low

abbrev pub high_kept : ℕ → ℕ → ℕ
high_kept w high = pick (eqb (w / 4 % 2) 0) 0 high

-- the same of each slot, from what its end was
abbrev pub EndsKept : (ℕ → ℕ → ℕ) → ℕ → List ℕ → List ℕ → List ℕ → Type 0
EndsKept f n cam before ends = (j : ℕ) → j < n → get_or ends j 0 ≡ f (get_or cam j 0) (get_or before j 0)
