-- The register behind bytes: list after list, and all bytes of a list at once, as the number that they are. Assumes nothing.
use Rattle.crc.specs.Names.{ℕ, zero, suc, ◌+◌, ◌*◌, ◌^◌, ◌<◌, ◌≤◌, ◌≡◌, List, [], ◌∷◌, ◌++◌, length, get_or, take, drop, bit_xor, pick, Bytes}
use Rattle.crc.proofs.Names.{◌∙◌, ap, ap₂, refl, sym, arith, xor_comm, xor_lt, xor_shifted, xor_zero_r, bit_steps, byte_step, crc32, crc_from, ones}
use Rattle.crc.proofs.Xors.{xor_assoc}
use Rattle.crc.proofs.Steps.{steps_add, steps_lt, steps_shift, steps_xor}
use Rattle.crc.specs.Statements.{ChecksFit}
use Rattle.std.proofs.lemmas.List.{take-append-drop}
use Rattle.std.specs.List.{fold}
use Rattle.std.specs.Simd.{first_chunks}
use lib.ListN.{length-drop, length-take}
use lib.Seq.{take-add, take_all}
use Rattle.wire.proofs.Reading.{bytes_drop, bytes_take}
use Rattle.wire.specs.Words.{word_of}

-- a register keeps its 32 bits
pub byte-lt : (c b : ℕ) → c < 2 ^ 32 → b < 256 → byte_step c b < 2 ^ 32
unfolding byte_step
byte-lt c b h g = steps_lt 8 (bit_xor c b) (xor_lt 32 c b h (omega arith))

pub crc_from-lt : (c : ℕ) (l : List ℕ) → c < 2 ^ 32 → Bytes l → crc_from c l < 2 ^ 32
unfolding crc_from
crc_from-lt c [] h g = h
crc_from-lt c (b ∷ l) h g = crc_from-lt (byte_step c b) l (byte-lt c b h (g 0)) (λ i. g (suc i))

pub crc32-lt : ChecksFit
unfolding crc32
crc32-lt l g = xor_lt 32 (crc_from ones l) ones (crc_from-lt ones l (omega arith) g) (omega arith)

-- the register behind two lists
pub crc_from-append : (c : ℕ) (l m : List ℕ) → crc_from c (l ++ m) ≡ crc_from (crc_from c l) m
unfolding crc_from
crc_from-append c [] m = refl
crc_from-append c (b ∷ l) m = crc_from-append (byte_step c b) l m

-- the number that bytes are, the lowest first
unfoldable number : List ℕ → ℕ
number [] = 0
number (b ∷ l) = b + 256 * number l

-- a byte that stands above the register's lowest eight bits is added as the others are
number_more : (c b n : ℕ) → b < 256 → bit_xor (byte_step c b) n ≡ bit_steps 8 (bit_xor c (b + 256 * n))
unfolding byte_step
number_more c b n h =
    ap (bit_xor (bit_steps 8 (bit_xor c b))) (sym (steps_shift 8 n))
    ∙ sym (steps_xor 8 (bit_xor c b) (n * 2 ^ 8))
    ∙ ap (bit_steps 8) (xor_assoc c b (n * 2 ^ 8))
    ∙ ap (λ (x : ℕ). bit_steps 8 (bit_xor c x)) (xor_comm b (n * 2 ^ 8) ∙ xor_shifted n 8 b h ∙ (let z : n * 2 ^ 8 + b ≡ b + 256 * n = omega arith in z))

-- the register behind bytes is their number, added to it, behind as many bits
crc_from-number : (c : ℕ) (l : List ℕ) → Bytes l → crc_from c l ≡ bit_steps (8 * length l) (bit_xor c (number l))
unfolding crc_from bit_steps number
crc_from-number c [] h = sym (xor_zero_r c)
crc_from-number c (b ∷ l) h =
    crc_from-number (byte_step c b) l (λ i. h (suc i))
    ∙ ap (bit_steps (8 * length l)) (number_more c b (number l) (h 0))
    ∙ sym (steps_add (8 * length l) 8 (bit_xor c (b + 256 * number l)))
    ∙ ap (λ (k : ℕ). bit_steps k (bit_xor c (b + 256 * number l))) (let z : 8 * length l + 8 ≡ 8 * suc (length l) = omega arith in z)

-- four bytes are a word
number_four : (s : List ℕ) → length s ≡ 4 → number s ≡ word_of s
unfolding number word_of pick
number_four [] h = absurd (omega arith)
number_four (a ∷ []) h = absurd (omega arith)
number_four (a ∷ b ∷ []) h = absurd (omega arith)
number_four (a ∷ b ∷ c ∷ []) h = absurd (omega arith)
number_four (a ∷ b ∷ c ∷ d ∷ []) h = omega arith
number_four (a ∷ b ∷ c ∷ d ∷ x ∷ s) h = absurd (omega arith)

four_bytes : (c : ℕ) (s : List ℕ) → Bytes s → length s ≡ 4 → crc_from c s ≡ bit_steps 32 (bit_xor c (word_of s))
four_bytes c s h e = crc_from-number c s h ∙ ap₂ (λ (k x : ℕ). bit_steps (8 * k) (bit_xor c x)) e (number_four s e)

-- eight bytes, as two words
pub eight_bytes : (c : ℕ) (s : List ℕ) → Bytes s → length s ≡ 8
    → crc_from c s ≡ bit_xor (bit_steps 64 (bit_xor c (word_of (take 4 s)))) (bit_steps 32 (word_of (take 4 (drop 4 s))))
eight_bytes c s h g =
    let a = take 4 s in
    let b = take 4 (drop 4 s) in
    ap (crc_from c) (sym (take-append-drop 4 s) ∙ ap (λ l. a ++ l) (sym (take_all 4 (drop 4 s) (omega (arith, length-drop 4 s)))))
    ∙ crc_from-append c a b
    ∙ four_bytes (crc_from c a) b (bytes_take 4 (drop 4 s) (bytes_drop 4 s h)) (omega (arith, length-take 4 (drop 4 s), length-drop 4 s))
    ∙ steps_xor 32 (crc_from c a) (word_of b)
    ∙ ap (λ (x : ℕ). bit_xor (bit_steps 32 x) (bit_steps 32 (word_of b))) (four_bytes c a (bytes_take 4 s h) (omega (arith, length-take 4 s)))
    ∙ ap (λ (x : ℕ). bit_xor x (bit_steps 32 (word_of b))) (sym (steps_add 32 32 (bit_xor c (word_of a))))

-- the register behind pieces of eight bytes, and behind single bytes
pieces_of : (k c : ℕ) (l : List ℕ) → fold crc_from c (first_chunks 8 k l) ≡ crc_from c (take (k * 8) l)
unfolding crc_from
pieces_of zero c l = refl
pieces_of (suc k) c l =
    pieces_of k (crc_from c (take 8 l)) (drop 8 l)
    ∙ sym (crc_from-append c (take 8 l) (take (k * 8) (drop 8 l)))
    ∙ ap (crc_from c) (sym (take-add 8 (k * 8) l) ∙ ap (λ n. take n l) (let e : 8 + k * 8 ≡ suc k * 8 = omega arith in e))

bytes_of : (c : ℕ) (l : List ℕ) → fold byte_step c l ≡ crc_from c l
unfolding crc_from
bytes_of c [] = refl
bytes_of c (b ∷ l) = bytes_of (byte_step c b) l

-- all bytes, in pieces of eight and the rest
pub in_pieces : (k : ℕ) (l : List ℕ) → bit_xor (fold byte_step (fold crc_from ones (first_chunks 8 k l)) (drop (k * 8) l)) ones ≡ crc32 l
unfolding crc32
in_pieces k l =
    ap (λ (x : ℕ). bit_xor x ones)
    (bytes_of (fold crc_from ones (first_chunks 8 k l)) (drop (k * 8) l)
    ∙ ap (λ (x : ℕ). crc_from x (drop (k * 8) l)) (pieces_of k ones l)
    ∙ sym (crc_from-append ones (take (k * 8) l) (drop (k * 8) l))
    ∙ ap (crc_from ones) (take-append-drop (k * 8) l))
