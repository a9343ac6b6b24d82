-- The words that a walk read, in order (01, "The walk", "Meters and the walk bill").
use Rattle.std.specs.Prelude.{◌∷◌}
use Rattle.memory.specs.Names.{ℕ, List, [], length, Place, Source, Reads}

abbrev pub sources : Reads → List Source
sources Reads.Nothing = []
sources (Reads.One a) = a ∷ []
sources (Reads.Two a b) = a ∷ b ∷ []

abbrev pub word_count : Reads → ℕ
word_count r = length (sources r)

-- where the last of them lies; nowhere where none was read (02, P6)
abbrev pub last_place : Reads → Place
last_place Reads.Nothing = Place.Nowhere
last_place (Reads.One a) = a.place
last_place (Reads.Two a b) = b.place
