-- Which kinds of page stand in which megabyte, noted in one pass over a list (01, "The builder").
use Rattle.std.specs.Prelude.{◌/◌, ◌^◌, ◌∷◌, ◌+◌, ◌*◌, ◌<◌, ◌≡◌}
use Rattle.records.specs.Names.{ℕ, Bool, false, List, [], eqb, get_or, ◌and◌, ◌or◌, type_of, megabytes, Kind}
use Rattle.records.specs.Names.{Mapping, replicate}

-- a mapping is a page of kind k in megabyte i
abbrev pub is_in : ℕ → Kind → Mapping → Bool
is_in i k m = eqb (m.at.0 / 2 ^ 20) i and eqb (type_of m.kind) (type_of k)

-- megabyte i holds a page of kind k
unfoldable pub has_kind : List Mapping → ℕ → Kind → Bool
has_kind [] i k = false
has_kind (m ∷ ms) i k = is_in i k m or has_kind ms i k

-- nothing is noted: 16 megabytes for each of four kinds
abbrev pub Blank : List Bool → Type 0
Blank seen = seen ≡ replicate 64 false

-- where a mapping is noted: by its kind's type bits, then by its megabyte
abbrev pub note_at : Mapping → ℕ
note_at m = 16 * type_of m.kind + m.at.0 / 2 ^ 20

-- the notes are those of a list: megabyte i holds a page of kind k exactly where that is noted
abbrev pub Kinds : List Mapping → List Bool → Type 0
Kinds ms seen = (k : Kind) (i : ℕ) → i < megabytes → get_or seen (16 * type_of k + i) false ≡ has_kind ms i k
