-- A line's words: what stands between blanks, and the words of kinds and accesses.
use Rattle.std.specs.Prelude.{Option, Some, None}
use Rattle.std.specs.Prelude.{◌∷◌}
use Rattle.listing.specs.Names.{ℕ, suc, Bool, true, false, not, List, [], eqb, take, drop, pick, ◌and◌, ◌or◌, Kind, Class}

-- a blank or a tab
unfoldable pub blank : ℕ → Bool
blank x = eqb x 32 or eqb x 9

-- inside a line no line feed, outside a comment no '#', between words blanks, in a word none
unfoldable pub belongs : Class → ℕ → Bool
belongs Class.Inline x = not (eqb x 10)
belongs Class.Plain x = not (eqb x 35)
belongs Class.Blank x = blank x
belongs Class.Solid x = not (blank x)

-- how many bytes at the front are of a class
unfoldable pub run_length : Class → List ℕ → ℕ
run_length c [] = 0
run_length c (x ∷ l) = pick (belongs c x) (suc (run_length c l)) 0

-- a line from its first word on, that word, and what stands behind it
abbrev pub unindented : List ℕ → List ℕ
unindented l = drop (run_length Class.Blank l) l

unfoldable pub word : List ℕ → List ℕ
word l = take (run_length Class.Solid (unindented l)) (unindented l)

unfoldable pub rest : List ℕ → List ℕ
rest l = drop (run_length Class.Solid (unindented l)) (unindented l)

-- two words are the same
unfoldable pub same_bytes : List ℕ → List ℕ → Bool
same_bytes [] [] = true
same_bytes [] (y ∷ b) = false
same_bytes (x ∷ a) [] = false
same_bytes (x ∷ a) (y ∷ b) = eqb x y and same_bytes a b

-- the letters of "section", "large", "small" and "tiny", of "r" and "rw"
abbrev pub kind_text : Kind → List ℕ
kind_text Kind.Section = 115 ∷ 101 ∷ 99 ∷ 116 ∷ 105 ∷ 111 ∷ 110 ∷ []
kind_text Kind.Large = 108 ∷ 97 ∷ 114 ∷ 103 ∷ 101 ∷ []
kind_text Kind.Small = 115 ∷ 109 ∷ 97 ∷ 108 ∷ 108 ∷ []
kind_text Kind.Tiny = 116 ∷ 105 ∷ 110 ∷ 121 ∷ []

abbrev pub read_only_text : List ℕ
read_only_text = 114 ∷ []

abbrev pub both_text : List ℕ
both_text = 114 ∷ 119 ∷ []

-- the kind that a word names
unfoldable pub kind_named : List ℕ → Option Kind
kind_named w =
    pick (same_bytes w (kind_text Kind.Section)) (Some Kind.Section)
    (pick (same_bytes w (kind_text Kind.Large)) (Some Kind.Large)
    (pick (same_bytes w (kind_text Kind.Small)) (Some Kind.Small)
    (pick (same_bytes w (kind_text Kind.Tiny)) (Some Kind.Tiny) None)))

-- the access that a word names (01, "The builder": 2 or 3), if it names one
unfoldable pub access_named : List ℕ → Option ℕ
access_named w = pick (same_bytes w read_only_text) (Some 2) (pick (same_bytes w both_text) (Some 3) None)
