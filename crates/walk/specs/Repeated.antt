-- Words that are repeated (02, P3 and P4): a page that has more addresses than a word of its table stands there several
-- times over.
use Rattle.memory.specs.declared.Place.{Place}
use Rattle.std.specs.Prelude.{Result, Ok, Err, Option, Some, None, ◌+◌, ◌-◌, ◌*◌, ◌/◌, ◌^◌, ◌<◌, ◌≡◌}
use Rattle.walk.specs.declared.Unfound.{Unfound}
use Rattle.walk.specs.Names.{ℕ, low_bits, Kind, Page, First, Table}
use Rattle.walk.specs.Descriptors.{second_of}
use Rattle.walk.specs.Statements.{bare}

-- how many low bits of an address a word of a table leaves alone: a coarse table is indexed from bit 12 on, a fine one
-- from bit 10
abbrev pub word_bits : Table → ℕ
word_bits Table.Coarse = 12
word_bits Table.Fine = 10

-- the first index past the words of a table
abbrev pub index_limit : Table → ℕ
index_limit t = 2 ^ (20 - word_bits t)

-- how many words a page takes: a large one 16 of a coarse table and 64 of a fine one, a small one 1 and 4, a tiny one 1
-- of a fine one
abbrev pub repeats : Table → Kind → ℕ
repeats t k = 2 ^ (low_bits k - word_bits t)

-- what is found in a table by a read
abbrev pub found_in : Table → Option (ℕ × Place) → Result Page Unfound
found_in t None = Err Unfound.Missing
found_in t (Some (w, p)) = second_of t w

-- each word of the table at an address that says a page stands equal over its whole aligned group, of as many words as
-- the page takes
abbrev pub Repeated : (ℕ → Option (ℕ × Place)) → Table → ℕ → Type 0
Repeated rd t at =
    (j j' : ℕ) (p : Page) → j < index_limit t → j' < index_limit t → found_in t (rd (at + 4 * j)) ≡ Ok p →
    j' / repeats t p.kind ≡ j / repeats t p.kind → bare (rd (at + 4 * j')) ≡ bare (rd (at + 4 * j))

-- so do those of the table that a first-level word names, if it names one
abbrev pub RepeatedBelow : (ℕ → Option (ℕ × Place)) → First → Type 0
RepeatedBelow rd First.Fault = Unit
RepeatedBelow rd (First.Whole p) = Unit
RepeatedBelow rd (First.Coarse t) = Repeated rd Table.Coarse t.0
RepeatedBelow rd (First.Fine t) = Repeated rd Table.Fine t.0

abbrev pub RepeatedAfter : (ℕ → Option (ℕ × Place)) → (ℕ → First) → Option (ℕ × Place) → Type 0
RepeatedAfter rd dec None = Unit
RepeatedAfter rd dec (Some (w, p)) = RepeatedBelow rd (dec w)

-- and those of every table that the n words of a first level at an address name, by a decoding of them
abbrev pub AllRepeated : (ℕ → Option (ℕ × Place)) → (ℕ → First) → ℕ → ℕ → Type 0
AllRepeated rd dec n at = (i : ℕ) → i < n → RepeatedAfter rd dec (rd (at + 4 * i))
