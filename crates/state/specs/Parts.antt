-- Parts of a state as words.
use Rattle.std.specs.Prelude.{Option, Some, None}
use Rattle.std.specs.Prelude.{◌/◌, ◌%◌, ◌∷◌, ◌++◌}
use Rattle.state.specs.Names.{ℕ, List, [], ltb, pick, ◌and◌, Meters, Bill, Entry, binary64, wide, halves}
use Rattle.std.specs.Float.Ieee.{to_bits}

-- CAM high, CAM low, RAM high, RAM low
abbrev pub entry_words : Entry → List ℕ
entry_words e = halves e.camhi e.camlo ∷ halves e.ramhi e.ramlo ∷ []

-- lock base and victim; as they were handed in where that is more than a device holds
unfoldable pub lock_word : ℕ → ℕ → ℕ → ℕ
lock_word handed lock victim = pick (ltb (handed % 65536) 256 and ltb (handed / 65536) 256) (halves lock victim) handed

abbrev pub meter_words : Meters → List ℕ
meter_words m = m.fresh ∷ m.retries ∷ m.words ∷ []

-- all ones where no row was read
abbrev pub no_row : ℕ
no_row = 4294967295

abbrev pub row_word : Option ℕ → ℕ
row_word None = no_row
row_word (Some row) = row

-- the bits of the two figures, and the last rows
abbrev pub bill_words : Bill → List ℕ
bill_words b =
    wide (to_bits binary64 b.total)
    ++ (wide (to_bits binary64 b.misses) ++ (row_word b.onchip.last ∷ row_word b.external.last ∷ []))
