-- CRC-32 of IEEE 802.3, reflected, bit by bit (02, P1).
use Rattle.std.specs.Prelude.{◌+◌, ◌*◌, ◌-◌, ◌/◌, ◌%◌, ◌<◌, ◌≡◌, ◌∷◌}
use Rattle.crc.specs.Names.{ℕ, zero, suc, List, [], eqb, length, get_or, pick, bit_xor}

-- the polynomial, its lowest power in the highest bit
abbrev pub polynomial : ℕ
polynomial = 0xEDB88320

-- a register of 32 ones, with which it begins and ends
abbrev pub ones : ℕ
ones = 0xFFFFFFFF

-- one bit: shifted out, and the polynomial added where it was set
unfoldable pub bit_step : ℕ → ℕ
bit_step c = pick (eqb (c % 2) 0) (c / 2) (bit_xor (c / 2) polynomial)

-- a number of bits
unfoldable pub bit_steps : ℕ → ℕ → ℕ
bit_steps zero c = c
bit_steps (suc n) c = bit_steps n (bit_step c)

-- a byte, its lowest bit first
unfoldable pub byte_step : ℕ → ℕ → ℕ
byte_step c b = bit_steps 8 (bit_xor c b)

-- the register behind a list of bytes
unfoldable pub crc_from : ℕ → List ℕ → ℕ
crc_from c [] = c
crc_from c (b ∷ l) = crc_from (byte_step c b) l

-- the check of a list of bytes
unfoldable pub crc32 : List ℕ → ℕ
crc32 l = bit_xor (crc_from ones l) ones

-- a number behind the bits that row j of the table stands for: 64 for the first, 8 for the last
abbrev pub behind : ℕ → ℕ → ℕ
behind j x = bit_steps (8 * (8 - j)) x

-- eight rows of 256 words, one for each byte of eight: word n of row j is n behind the bits of that row
pub record IsTable (t : List ℕ) : Type 0 where
  pub long : length t ≡ 2048
  pub rule : (j n : ℕ) → j < 8 → n < 256 → get_or t (256 * j + n) 0 ≡ behind j n
