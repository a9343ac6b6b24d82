-- The two lent memories (01, "The unit", third paragraph; "When the unit says no", 4): which are refused,
-- where a descriptor's four bytes lie, and the part that they are.
use Rattle.std.specs.Prelude.{◌+◌, ◌-◌, ◌≤◌, ◌≡◌, ◌⊎◌}
use Rattle.std.specs.Borrow.{Bor}
use Rattle.memory.specs.Names.{ℕ, Bool, List, [], length, take, drop, pick, Bor, Memories, Place}
pub use Rattle.memory.specs.Spans.{longest}
unfoldable pub use Rattle.memory.specs.Spans.{memory_ok, apart, memories_ok, lies_in}

-- the bytes of the on-chip and of the external memory, and the physical address of the first byte of each
pub record Lent : Type 0 where
  pub on : List ℕ
  pub onbase : ℕ
  pub ext : List ℕ
  pub extbase : ℕ

-- two memories, each with its base
abbrev pub lent : List ℕ → ℕ → List ℕ → ℕ → Lent
lent on onbase ext extbase = record { on = on; onbase = onbase; ext = ext; extbase = extbase }

-- what is lent, as a call has it
abbrev pub lent_of : Memories → Lent
lent_of m = lent m.on.now m.onbase.0 m.ext.now m.extbase.0

-- bytes lent as the external memory, beside an empty on-chip one
abbrev pub lent_alone : List ℕ → ℕ → Lent
lent_alone bytes base = lent [] 0 bytes base

-- bytes are lent at a base, as the on-chip or the external memory
abbrev pub LentAt : List ℕ → ℕ → Lent → Type 0
LentAt bytes base m = ((m.on ≡ bytes) × (m.onbase ≡ base)) ⊎ ((m.ext ≡ bytes) × (m.extbase ≡ base))

-- the two may be lent together
abbrev pub lent_ok : Lent → Bool
lent_ok m = memories_ok m.onbase (length m.on) m.extbase (length m.ext)

-- where the four bytes at a lie: in the n bytes at b on chip, in the m external ones at c, or in neither
abbrev pub place_of : ℕ → ℕ → ℕ → ℕ → ℕ → Place
place_of b n c m a = pick (lies_in b n a) (Place.OnChip (a - b)) (pick (lies_in c m a) (Place.External (a - c)) Place.Nowhere)

-- where the four bytes at an address lie, with no look at refusal 4
unfoldable pub place_within : Lent → ℕ → Place
place_within m a = place_of m.onbase (length m.on) m.extbase (length m.ext) a

-- where the four bytes at an address lie; nowhere under refusal 4
unfoldable pub place_in : Lent → ℕ → Place
place_in m a = pick (lent_ok m) (place_within m a) Place.Nowhere

-- the four bytes at a place
abbrev pub part_at : Lent → Place → List ℕ
part_at m (Place.OnChip k) = take 4 (drop k m.on)
part_at m (Place.External k) = take 4 (drop k m.ext)
part_at m Place.Nowhere = []

-- how many bytes those are
abbrev pub part_length : Place → ℕ
part_length (Place.OnChip k) = 4
part_length (Place.External k) = 4
part_length Place.Nowhere = 0

-- the four bytes at an address, with no look at refusal 4
abbrev pub fetched_within : Lent → ℕ → List ℕ
fetched_within m a = part_at m (place_within m a)

-- the four bytes at an address; none under refusal 4
abbrev pub fetched_in : Lent → ℕ → List ℕ
fetched_in m a = part_at m (place_in m a)

-- whose part they are: the block of the memory that holds them and the offset there; nowhere is the start of the
-- on-chip one
abbrev pub source_of : Bor (List ℕ) → Bor (List ℕ) → Place → ℕ × ℕ
source_of on ext (Place.OnChip k) = (on.ref_ptr.0, k + on.ref_ptr.1)
source_of on ext (Place.External k) = (ext.ref_ptr.0, k + ext.ref_ptr.1)
source_of on ext Place.Nowhere = on.ref_ptr

-- a place lies whole in its memory, where the address says
abbrev pub Inside : Lent → ℕ → Place → Type 0
Inside m a (Place.OnChip k) = (k + 4 ≤ length m.on) × (m.onbase + k ≡ a)
Inside m a (Place.External k) = (k + 4 ≤ length m.ext) × (m.extbase + k ≡ a)
Inside m a Place.Nowhere = Unit
