-- What the laws of this crate say (02, P1).
use Rattle.std.specs.Prelude.{◌<◌, ◌^◌, ◌≡◌, ◌∷◌, ◌++◌}
use Rattle.crc.specs.Names.{ℕ, List, [], Bytes}
use Rattle.crc.specs.Crc.{crc32}

-- a check has 32 bits
abbrev pub ChecksFit : Type 0
ChecksFit = (l : List ℕ) → Bytes l → crc32 l < 2 ^ 32

-- two lists of bytes that are alike but for one byte have two checks
abbrev pub OneByteCaught : Type 0
OneByteCaught = (p s : List ℕ) (x y : ℕ) → Bytes (p ++ (x ∷ s)) → Bytes (p ++ (y ∷ s)) → crc32 (p ++ (x ∷ s)) ≡ crc32 (p ++ (y ∷ s)) → x ≡ y

-- the published check, that of the nine digits "123456789"
abbrev pub Published : Type 0
Published = crc32 (49 ∷ 50 ∷ 51 ∷ 52 ∷ 53 ∷ 54 ∷ 55 ∷ 56 ∷ 57 ∷ []) ≡ 0xCBF43926
