-- A word as a number in hex: upper or lower case, with or without 0x.
use Rattle.std.specs.Prelude.{Result, Ok, Err}
use Rattle.listing.specs.declared.NumberError.{NumberError}
use Rattle.std.specs.Prelude.{◌+◌, ◌-◌, ◌*◌, ◌^◌, ◌∷◌}
use Rattle.listing.specs.Names.{ℕ, Bool, List, [], eqb, ltb, leb, length, get_or, drop, pick, ◌and◌, ◌or◌}

-- a byte between two others
unfoldable pub within : ℕ → ℕ → ℕ → Bool
within x from to = leb from x and leb x to

-- the value of a hex digit ('0' to '9', 'A' to 'F', 'a' to 'f'), 16 where the byte is none
unfoldable pub digit : ℕ → ℕ
digit x =
    pick (within x 48 57) (x - 48)
    (pick (within x 65 70) (x - 55)
    (pick (within x 97 102) (x - 87) 16))

-- the first number past those of 32 bits
abbrev pub end : ℕ
end = 2 ^ 32

-- digits read on from a value: the number they write with it
unfoldable pub read_on : ℕ → List ℕ → Result ℕ NumberError
read_on v [] = pick (ltb v end) (Ok v) (Err NumberError.TooLarge)
read_on v (x ∷ w) = pick (ltb (digit x) 16) (read_on (16 * v + digit x) w) (Err NumberError.NotHex)

-- one digit at least
unfoldable pub hex_digits : List ℕ → Result ℕ NumberError
hex_digits w = pick (eqb (length w) 0) (Err NumberError.NotHex) (read_on 0 w)

-- a word that begins with 0x or 0X
unfoldable pub prefixed : List ℕ → Bool
prefixed w = leb 2 (length w) and eqb (get_or w 0 0) 48 and (eqb (get_or w 1 0) 120 or eqb (get_or w 1 0) 88)

-- the number that a word writes
unfoldable pub hex_number : List ℕ → Result ℕ NumberError
hex_number w = pick (prefixed w) (hex_digits (drop 2 w)) (hex_digits w)
