-- What the words of the table's rows make, and the table's rule: each word is that of the next row behind eight bits, and the last row's that of a byte. Assumes nothing.
use Rattle.crc.specs.Names.{ℕ, zero, suc, ◌+◌, ◌*◌, ◌-◌, ◌/◌, ◌%◌, ◌^◌, ◌<◌, ◌≤◌, ◌≡◌, List, [], ◌∷◌, ◌++◌, eqb, length, get_or, drop, bit_xor}
use Rattle.crc.proofs.Names.{◌∙◌, ap, ap₂, refl, subst, sym, arith, eqb-true, xor_shr, xor_zero_r, bit_steps, byte_step, IsTable, behind}
use Rattle.crc.proofs.Xors.{xor_assoc}
use Rattle.crc.proofs.Steps.{steps_add, steps_low}
use mathlib.Core.Bool.{Bool, true, false, false≢true}
use lib.ListN.{length-drop, get_or-append}
use lib.Seq.{get_or-append-add, get_or-drop}
use native.Mathlib.Nat.{div-eq_of_lt}
use Rattle.page.specs.Pick.{◌and◌}
use Rattle.page.proofs.Picks.{and_left, and_right}

-- one byte, by its word of the last row
pub one_byte : (c b : ℕ) → b < 256 → byte_step c b ≡ bit_xor (behind 7 (bit_xor c b / 1 % 256)) (c / 256)
unfolding byte_step bit_steps
one_byte c b h =
    steps_low 0 8 (bit_xor c b)
    ∙ ap₂ (λ (x y : ℕ). bit_xor (bit_steps 8 (x % 256)) y) (let z : bit_xor c b ≡ bit_xor c b / 1 = omega arith in z)
    (xor_shr c b 8 ∙ ap (bit_xor (c / 256)) (div-eq_of_lt h) ∙ xor_zero_r (c / 256))

-- a number behind the bits of row j: its lowest byte behind them, and the rest behind those of the next row
row_off : (j k x y : ℕ) → j < 8 → k ≡ j + 1 → y ≡ x / 256 → behind j x ≡ bit_xor (behind j (x % 256)) (behind k y)
row_off j k x y h e f =
    subst (λ (n : ℕ). bit_steps n x ≡ bit_xor (bit_steps n (x % 256)) (behind k (x / 256)))
    (let z : 8 * (8 - k) + 8 ≡ 8 * (8 - j) = omega arith in z)
    (steps_low (8 * (8 - k)) 8 x)
    ∙ ap (λ (z : ℕ). bit_xor (behind j (x % 256)) (behind k z)) (sym f)

-- the four bytes of a word, each behind the bits of its own row
pub four_rows : (j x p q r s : ℕ) → j ≤ 4 → x < 2 ^ 32 → p ≡ behind j (x / 1 % 256) → q ≡ behind (j + 1) (x / 256 % 256)
    → r ≡ behind (j + 2) (x / 65536 % 256) → s ≡ behind (j + 3) (x / 16777216 % 256) → bit_xor (bit_xor (bit_xor p q) r) s ≡ behind j x
four_rows j x p q r s h g ep eq er es =
    sym
    (ap (behind j) (let z : x ≡ x / 1 = omega arith in z)
    ∙ row_off j (j + 1) (x / 1) (x / 256) (omega arith) refl (omega arith)
    ∙ ap₂ bit_xor (sym ep)
    (row_off (j + 1) (j + 2) (x / 256) (x / 65536) (omega arith) (omega arith) (omega arith)
    ∙ ap₂ bit_xor (sym eq)
    (row_off (j + 2) (j + 3) (x / 65536) (x / 16777216) (omega arith) (omega arith) (omega arith)
    ∙ ap₂ bit_xor (sym er) (ap (behind (j + 3)) (let z : x / 16777216 ≡ x / 16777216 % 256 = omega arith in z) ∙ sym es)))
    ∙ sym (xor_assoc p q (bit_xor r s))
    ∙ sym (xor_assoc (bit_xor p q) r s))

-- the n numbers from i on
abbrev pub count_from : ℕ → ℕ → List ℕ
count_from i zero = []
count_from i (suc n) = i ∷ count_from (suc i) n

count_at : (i n k : ℕ) → k < n → get_or (count_from i n) k 0 ≡ i + k
count_at i zero k h = absurd (omega arith)
count_at i (suc n) zero h = omega arith
count_at i (suc n) (suc k) h = count_at (suc i) n k (omega arith) ∙ omega arith

-- whether each word of a list is the word of another behind eight bits
abbrev pub follows : List ℕ → List ℕ → Bool
follows [] ys = true
follows (x ∷ xs) [] = false
follows (x ∷ xs) (y ∷ ys) = eqb x (bit_steps 8 y) and follows xs ys

follows_at : (xs ys : List ℕ) (k : ℕ) → follows xs ys ≡ true → k < length xs → get_or xs k 0 ≡ bit_steps 8 (get_or ys k 0)
follows_at [] ys k e h = absurd (omega arith)
follows_at (x ∷ xs) [] k e h = absurd (false≢true e)
follows_at (x ∷ xs) (y ∷ ys) zero e h = eqb-true x (bit_steps 8 y) (and_left _ _ e)
follows_at (x ∷ xs) (y ∷ ys) (suc k) e h = follows_at xs ys k (and_right (eqb x (bit_steps 8 y)) (follows xs ys) e) (omega arith)

-- a list's rows but the first, and then the bytes
abbrev pub next_rows : List ℕ → List ℕ
next_rows t = drop 256 t ++ count_from 0 256

module _ (t : List ℕ) (long : length t ≡ 2048) (right : follows t (next_rows t) ≡ true) where
  -- how many words stand below the first row
  past : length (drop 256 t) ≡ 1792
  past = length-drop 256 t ∙ ap (λ (n : ℕ). n - 256) long

  -- below the last row stand the bytes
  last_row : (n : ℕ) → n < 256 → get_or (next_rows t) (1792 + n) 0 ≡ n
  last_row n h =
      ap (λ (k : ℕ). get_or (next_rows t) (k + n) 0) (sym past)
      ∙ get_or-append-add (drop 256 t) (count_from 0 256) n 0
      ∙ count_at 0 256 n h
      ∙ omega arith

  -- a word of another row
  next_row : (k : ℕ) → k < 1792 → get_or (next_rows t) k 0 ≡ get_or t (256 + k) 0
  next_row k h = get_or-append (drop 256 t) (count_from 0 256) 0 k (omega (arith, past)) ∙ get_or-drop 256 t k 0

  -- the rule, m rows before the last
  row : (m n : ℕ) → m < 8 → n < 256 → get_or t (256 * (7 - m) + n) 0 ≡ bit_steps (8 * suc m) n
  row zero n h g = follows_at t (next_rows t) (1792 + n) right (omega arith) ∙ ap (bit_steps 8) (last_row n g)
  row (suc m) n h g =
      let k = 256 * (7 - suc m) + n in
      follows_at t (next_rows t) k right (omega arith)
      ∙ ap (bit_steps 8)
      (next_row k (omega arith)
      ∙ ap (λ (i : ℕ). get_or t i 0) (let z : 256 + k ≡ 256 * (7 - m) + n = omega arith in z)
      ∙ row m n (omega arith) g)
      ∙ sym (steps_add 8 (8 * suc m) n)
      ∙ ap (λ (i : ℕ). bit_steps i n) (let z : 8 + 8 * suc m ≡ 8 * suc (suc m) = omega arith in z)

  pub table_is : IsTable t
  table_is = record {
    long = long;
    rule = λ j n h g.
        ap (λ (i : ℕ). get_or t (256 * i + n) 0) (let z : j ≡ 7 - (7 - j) = omega arith in z)
        ∙ row (7 - j) n (omega arith) g
        ∙ ap (λ (i : ℕ). bit_steps i n) (let z : 8 * suc (7 - j) ≡ 8 * (8 - j) = omega arith in z);
  }
