-- List A of the bench sheet (01, "Bench sheet"), as the builder reads it.
use Rattle.std.specs.Prelude.{◌∷◌}
use Rattle.translates.specs.Names.{ℕ, List, []}

abbrev pub records_a : List ℕ
records_a =
    0x00 ∷ 0x00 ∷ 0x01 ∷ 0x00 ∷ 0x00 ∷ 0x00 ∷ 0x02 ∷ 0x10 ∷ 1 ∷ 3 ∷ 0 ∷ 0
    ∷ 0x00 ∷ 0x00 ∷ 0x30 ∷ 0x00 ∷ 0x00 ∷ 0x00 ∷ 0x20 ∷ 0x11 ∷ 0 ∷ 2 ∷ 0 ∷ 0
    ∷ 0x00 ∷ 0x04 ∷ 0x50 ∷ 0x00 ∷ 0x00 ∷ 0x0C ∷ 0x00 ∷ 0x10 ∷ 3 ∷ 3 ∷ 0 ∷ 0
    ∷ []

-- the sheet's base
abbrev pub base_a : ℕ
base_a = 0x2000_0000
