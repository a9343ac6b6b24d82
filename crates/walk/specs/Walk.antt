-- The plain walk (01, "The walk").
use Rattle.std.specs.Prelude.{Result, Ok, Err, Option, Some, None, ◌+◌, ◌*◌, ◌/◌, ◌%◌, ◌^◌}
use Rattle.walk.specs.declared.Unfound.{Unfound}
use Rattle.walk.specs.declared.Page.{Page}
use Rattle.walk.specs.Names.{ℕ, upper, physical, megabytes, PhysicalAddress, Lent, place_within, place_in, fetched_within}
use Rattle.walk.specs.Names.{fetched_in, word_of, Place, Source, Reads, First, Table, Walked}
use Rattle.walk.specs.Descriptors.{first_of, second_of}

-- the first-level table starts at a multiple of 2^7, and has a word for each megabyte
abbrev pub base_bits : ℕ
base_bits = 7

-- where the first word stands, for a table that starts at a multiple of 2^j and has n words, each for 2^20 bytes
unfoldable pub first_at : ℕ → ℕ → ℕ → ℕ → ℕ
first_at j n base va = upper j base + 4 * (va / 2 ^ 20 % n)

-- where the second stands: a coarse table is indexed by bits 19:12
unfoldable pub coarse_at : PhysicalAddress → ℕ → ℕ
coarse_at table va = table.0 + 4 * (va / 2 ^ 12 % 2 ^ 8)

-- a fine one by 19:10
unfoldable pub fine_at : PhysicalAddress → ℕ → ℕ
fine_at table va = table.0 + 4 * (va / 2 ^ 10 % 2 ^ 10)

-- a word and the place that holds it, or that there is none
abbrev pub read_at : ℕ → Place → Option (ℕ × Place)
read_at w (Place.OnChip k) = Some (w, Place.OnChip k)
read_at w (Place.External k) = Some (w, Place.External k)
read_at w Place.Nowhere = None

-- what two lent memories read at an address, with no look at refusal 4
unfoldable pub read_within : Lent → ℕ → Option (ℕ × Place)
read_within m a = read_at (word_of (fetched_within m a)) (place_within m a)

-- what they read; nothing under refusal 4
unfoldable pub read_in : Lent → ℕ → Option (ℕ × Place)
read_in m a = read_at (word_of (fetched_in m a)) (place_in m a)

-- a word at an address and the place that holds it
abbrev pub source_at : ℕ → Place → Source
source_at a p = record { at = physical a; place = p }

-- a walk that misses a word counts none as read
abbrev pub missing : Walked
missing = record { found = Err Unfound.Missing; reads = Reads.Nothing }

-- a walk that ends with its first word
abbrev pub ended : Result Page Unfound → Source → Walked
ended f s = record { found = f; reads = Reads.One s }

-- after the first word s, the second stands at b of a table
abbrev pub after_second : Table → Source → ℕ → Option (ℕ × Place) → Walked
after_second t s b None = missing
after_second t s b (Some (w, p)) = record { found = second_of t w; reads = Reads.Two s (source_at b p) }

-- after the first word s, by what it says
abbrev pub by_first : (ℕ → Option (ℕ × Place)) → ℕ → Source → First → Walked
by_first rd va s First.Fault = ended (Err Unfound.NoPage) s
by_first rd va s (First.Whole p) = ended (Ok p) s
by_first rd va s (First.Coarse t) = after_second Table.Coarse s (coarse_at t va) (rd (coarse_at t va))
by_first rd va s (First.Fine t) = after_second Table.Fine s (fine_at t va) (rd (fine_at t va))

-- after the first word at a, by a decoding of it
abbrev pub after_first : (ℕ → Option (ℕ × Place)) → (ℕ → First) → ℕ → ℕ → Option (ℕ × Place) → Walked
after_first rd dec va a None = missing
after_first rd dec va a (Some (w, p)) = by_first rd va (source_at a p) (dec w)

-- the walk over any reading and decoding whose first word stands at a
unfoldable pub walk_from : (ℕ → Option (ℕ × Place)) → (ℕ → First) → ℕ → ℕ → Walked
walk_from rd dec va a = after_first rd dec va a (rd a)

-- the plain walk from a base over any reading
abbrev pub walk_of : (ℕ → Option (ℕ × Place)) → ℕ → ℕ → Walked
walk_of rd base va = walk_from rd first_of va (first_at base_bits megabytes base va)

-- the plain walk over two lent memories
abbrev pub walk_in : Lent → ℕ → ℕ → Walked
walk_in m = walk_of (read_in m)

-- the same with no look at refusal 4
abbrev pub walk_within : Lent → ℕ → ℕ → Walked
walk_within m = walk_of (read_within m)
