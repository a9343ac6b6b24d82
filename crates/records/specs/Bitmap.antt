-- The tiny pages that earlier records have, as bits, 64 to a word: how an overlap is found (01, "When the unit says
-- no", 11).
use Rattle.std.specs.Prelude.{◌+◌, ◌*◌, ◌/◌, ◌%◌, ◌^◌, ◌<◌, ◌≤◌, ◌≡◌}
use Rattle.records.specs.Names.{ℕ, Bool, true, false, List, get_or, virtual, Mapping}
use Rattle.records.specs.Mappings.{holds}

-- the bit of tiny page p: 1 where it is taken
unfoldable pub bit : List ℕ → ℕ → ℕ
bit c p = get_or c (p / 64) 0 / 2 ^ (p % 64) % 2

-- what a test says of a statement
abbrev pub Says : Type 0 → Bool → Type 0
Says P true = P
Says P false = P → ⊥

-- no page of n from s on is taken
abbrev pub Untaken : List ℕ → ℕ → ℕ → Type 0
Untaken c s n = (p : ℕ) → s ≤ p → p < s + n → bit c p ≡ 0

-- no page that a mapping has is taken
abbrev pub Free : List ℕ → Mapping → Type 0
Free c m = (p : ℕ) → p < 16384 → holds m (virtual (p * 1024)) ≡ true → bit c p ≡ 0

-- the pages of n from s on are taken, and the others are as they were
abbrev pub Full : List ℕ → ℕ → ℕ → List ℕ → Type 0
Full c s n d = ((p : ℕ) → s ≤ p → p < s + n → bit d p ≡ 1) × ((p : ℕ) → (s ≤ p → p < s + n → ⊥) → bit d p ≡ bit c p)

-- the pages that a mapping has are taken, and the others are as they were
abbrev pub Covered : List ℕ → Mapping → List ℕ → Type 0
Covered c m d =
    ((p : ℕ) → p < 16384 → holds m (virtual (p * 1024)) ≡ true → bit d p ≡ 1)
    × ((p : ℕ) → p < 16384 → holds m (virtual (p * 1024)) ≡ false → bit d p ≡ bit c p)
