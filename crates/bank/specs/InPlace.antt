-- The slots in place: the words, and the ends of the span that each slot matches.
use Rattle.std.specs.Prelude.{◌≡◌, ◌⊎◌, ◌<◌, ◌/◌, ◌%◌}
use Rattle.bank.specs.Names.{ℕ, List, get_or, length}
use Rattle.bank.specs.Spans.{low_of, high_of, Ends}
use Rattle.bank.specs.declared.slots.Slots.{Slots}

-- the two lanes of ends are those of the CAM lane
pub record Spanned (cam lows highs : List ℕ) : Type 0 where
  pub low_ends : Ends low_of 32 cam lows
  pub high_ends : Ends high_of 32 cam highs
  pub cam-long : length cam ≡ 32
  pub lows_long : length lows ≡ 32
  pub highs_long : length highs ≡ 32

-- the slots have the ends of their CAM lane
abbrev pub IsSpanned : Slots → Type 0
IsSpanned s = Spanned s.bank.cam s.lows s.highs

-- each word of a CAM lane is as it was, or no longer valid
abbrev pub Dropped : List ℕ → List ℕ → Type 0
Dropped before after = (j : ℕ) → j < 32 → (get_or after j 0 ≡ get_or before j 0) ⊎ (get_or after j 0 / 4 % 2 ≡ 0)
