-- Words and bytes in a buffer; all numbers are little-endian.
use Rattle.std.specs.Prelude.{◌+◌, ◌*◌, ◌/◌, ◌%◌, ◌^◌, ◌<◌, ◌∷◌, ◌++◌}
use Rattle.wire.specs.Names.{ℕ, List, [], leb, length, take, drop, get_or, pick}

-- four bytes as a number, little-endian
abbrev pub little_endian : ℕ → ℕ → ℕ → ℕ → ℕ
little_endian a b c d = a + 256 * b + 65536 * c + 16777216 * d

-- the word that a part's first four bytes are; 0 where there are fewer
unfoldable pub word_of : List ℕ → ℕ
word_of s = pick (leb 4 (length s)) (little_endian (get_or s 0 0) (get_or s 1 0) (get_or s 2 0) (get_or s 3 0)) 0

-- a word's four bytes, little-endian
abbrev pub word_bytes : ℕ → List ℕ
word_bytes w = w % 256 ∷ w / 256 % 256 ∷ w / 65536 % 256 ∷ w / 16777216 % 256 ∷ []

-- the bytes of words, one behind the other
unfoldable pub bytes_of : List ℕ → List ℕ
bytes_of [] = []
bytes_of (w ∷ ws) = word_bytes w ++ bytes_of ws

-- words in a buffer from an offset on, the other bytes as they were
unfoldable pub placed : List ℕ → ℕ → List ℕ → List ℕ
placed l at ws = take at l ++ (bytes_of ws ++ drop (at + 4 * length ws) l)

-- the same where there is room for them, nothing where there is not
unfoldable pub words_put : List ℕ → ℕ → List ℕ → List ℕ
words_put l at ws = pick (leb (at + 4 * length ws) (length l)) (placed l at ws) l

-- a number of 8 bytes as two words
abbrev pub wide : ℕ → List ℕ
wide x = x % 2 ^ 32 ∷ x / 2 ^ 32 ∷ []

-- two numbers of 16 bits as they lie in a word
abbrev pub halves : ℕ → ℕ → ℕ
halves a b = a + 65536 * b

-- a word whose high half lies first
abbrev pub swapped : ℕ → ℕ
swapped w = halves (w / 65536) (w % 65536)

-- the word at an offset, and its two halves
abbrev pub word_at : List ℕ → ℕ → ℕ
word_at l at = word_of (take 4 (drop at l))

abbrev pub low_at : List ℕ → ℕ → ℕ
low_at l at = word_at l at % 65536

abbrev pub high_at : List ℕ → ℕ → ℕ
high_at l at = word_at l at / 65536

-- bytes in a memory, from an index on
unfoldable pub pasted : List ℕ → ℕ → List ℕ → List ℕ
pasted l at s = (take at l ++ s) ++ drop (at + length s) l

-- the same where there is room for them, nothing where there is not
unfoldable pub bytes_put : List ℕ → ℕ → List ℕ → List ℕ
bytes_put l at s = pick (leb (at + length s) (length l)) (pasted l at s) l

-- a list of bytes
abbrev pub Bytes : List ℕ → Type 0
Bytes l = (i : ℕ) → get_or l i 0 < 256

-- how many bytes at the front of a memory are the text, and the memory
pub record Shown : Type 0 where
  pub count : ℕ
  pub memory : List ℕ

abbrev pub shown : ℕ → List ℕ → Shown
shown n l = record { count = n; memory = l }
