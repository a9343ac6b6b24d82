-- Words read from their bytes. Assumes nothing.
use Rattle.wire.specs.Names.{◌≡◌, ◌≤◌, List, ◌++◌, ℕ, zero, suc, ◌+◌, ◌-◌, ◌*◌, ◌/◌, ◌%◌, ◌^◌, get_or, leb, length, take, drop}
use Rattle.wire.proofs.Names.{◌<◌, ◌∙◌, sym, ap, dec_le, le-leb, pick_yes, arith, length-drop, lt-leb, pick_no, word_bytes, word_of}
use mathlib.Core.Path.{subst}
use lib.Dec.{lit<}
use lib.ListN.{length-take, replicate, get_or-append, get_or-eq_default}
use lib.Seq.{ext_get_or, get_or-append-add, get_or-take, get_or-drop}
use Rattle.page.proofs.Picks.{pick_by}
use Rattle.wire.specs.Words.{little_endian, word_at, Bytes}

-- a word that is not there is 0
pub word_none : (s : List ℕ) (at : ℕ) → length s < at + 4 → word_at s at ≡ 0
unfolding word_of
word_none s at h = let a = length-take 4 (drop at s) in let b = length-drop at s in pick_no _ _ _ (lt-leb 4 (length (take 4 (drop at s))) (omega arith))

-- a part's word is that of its first four bytes
pub word_first : (l : List ℕ) → word_of l ≡ word_of (take 4 l)
unfolding word_of
word_first l = elim (dec_le 4 (length l)) [
  | yes h ↦
      let e₀ : get_or (take 4 l) 0 0 ≡ get_or l 0 0 = get_or-take 4 l 0 0 (lit< tt) in
      let e₁ : get_or (take 4 l) 1 0 ≡ get_or l 1 0 = get_or-take 4 l 1 0 (lit< tt) in
      let e₂ : get_or (take 4 l) 2 0 ≡ get_or l 2 0 = get_or-take 4 l 2 0 (lit< tt) in
      let e₃ : get_or (take 4 l) 3 0 ≡ get_or l 3 0 = get_or-take 4 l 3 0 (lit< tt) in
      let a = pick_yes (leb 4 (length l)) (little_endian (get_or l 0 0) (get_or l 1 0) (get_or l 2 0) (get_or l 3 0)) 0 (le-leb 4 (length l) h) in
      let b =
      pick_yes (leb 4 (length (take 4 l))) (little_endian (get_or (take 4 l) 0 0) (get_or (take 4 l) 1 0) (get_or (take 4 l) 2 0) (get_or (take 4 l) 3 0)) 0
      (le-leb 4 (length (take 4 l)) (omega (arith, length-take 4 l))) in
      cc
  | no h ↦
      pick_no _ _ _ (lt-leb 4 (length l) (omega arith))
      ∙ sym (pick_no _ _ _ (lt-leb 4 (length (take 4 l)) (omega (arith, length-take 4 l))))
]

-- a word is what its four bytes say
pub word_value : (x : ℕ) → x < 2 ^ 32 → little_endian (x % 256) (x / 256 % 256) (x / 65536 % 256) (x / 16777216 % 256) ≡ x
word_value x h =
    let a : x / 65536 ≡ x / 256 / 256 = omega arith in
    let b : x / 16777216 ≡ x / 65536 / 256 = omega arith in
    sum (x % 256) (x / 256 % 256) (x / 65536 % 256) (x / 16777216 % 256) (x / 256) (x / 65536) (x / 16777216) x (omega arith) (omega arith) (omega arith) (omega arith)
  where
    sum : (a b c d p q r x : ℕ) → a + 256 * p ≡ x → b + 256 * q ≡ p → c + 256 * r ≡ q → d ≡ r → little_endian a b c d ≡ x
    sum a b c d p q r x e f g h = omega arith

-- a word of bytes fits 32 bits, and parts of bytes are bytes
pub bytes_drop : (n : ℕ) (l : List ℕ) → Bytes l → Bytes (drop n l)
bytes_drop n l h i = subst (λ (x : ℕ). x < 256) (sym (get_or-drop n l i 0)) (h (n + i))

pub bytes_take : (n : ℕ) (l : List ℕ) → Bytes l → Bytes (take n l)
bytes_take n l h i = elim (dec_le n i) [
  | yes g ↦ subst (λ (x : ℕ). x < 256) (sym (get_or-eq_default (take n l) 0 {n = i} (omega (arith, length-take n l)))) (lit< tt)
  | no g ↦ subst (λ (x : ℕ). x < 256) (sym (get_or-take n l i 0 (omega arith))) (h i)
]

pub bytes-append : (xs ys : List ℕ) → Bytes xs → Bytes ys → Bytes (xs ++ ys)
bytes-append xs ys f g i = elim (dec_le (length xs) i) [
  | yes h ↦
      let s : i ≡ length xs + (i - length xs) = omega arith in
      subst (λ (x : ℕ). x < 256) (sym (ap (λ (k : ℕ). get_or (xs ++ ys) k 0) s ∙ get_or-append-add xs ys (i - length xs) 0)) (g (i - length xs))
  | no h ↦ subst (λ (x : ℕ). x < 256) (sym (get_or-append xs ys 0 i (omega arith))) (f i)
]

pub zero-bytes : (n : ℕ) → Bytes (replicate n 0)
zero-bytes zero i = omega arith
zero-bytes (suc n) zero = omega arith
zero-bytes (suc n) (suc i) = zero-bytes n i

-- the bytes of a word, and the word that they are
pub word_bytes_lem : (w : ℕ) → Bytes (word_bytes w)
word_bytes_lem w zero = omega arith
word_bytes_lem w (suc zero) = omega arith
word_bytes_lem w (suc (suc zero)) = omega arith
word_bytes_lem w (suc (suc (suc zero))) = omega arith
word_bytes_lem w (suc (suc (suc (suc i)))) = omega arith

pub word_back : (w : ℕ) → w < 2 ^ 32 → word_of (word_bytes w) ≡ w
unfolding word_of
word_back w h = pick_yes _ _ _ (le-leb 4 4 (omega arith)) ∙ word_value w h

pub word_lt : (l : List ℕ) → Bytes l → word_of l < 2 ^ 32
unfolding word_of
word_lt l h =
    pick_by (λ (w : ℕ). w < 2 ^ 32) _ _ _ (λ _. omega (arith, h 0, h 1, h 2, h 3)) (λ _. lit< tt)

-- the four bytes at an offset are four where the list has them
pub four_long : (l : List ℕ) (k : ℕ) → k + 4 ≤ length l → length (take 4 (drop k l)) ≡ 4
four_long l k h = omega (arith, length-take 4 (drop k l), length-drop k l)

-- words of four bytes each that are equal have the same bytes
digits : (a b c d x y z w : ℕ) → a < 256 → b < 256 → c < 256 → d < 256 → x < 256 → y < 256 → z < 256 → w < 256 → little_endian a b c d ≡ little_endian x y z w
    → (a ≡ x) × (b ≡ y) × (c ≡ z) × (d ≡ w)
digits a b c d x y z w ha hb hc hd hx hy hz hw e = (omega arith, omega arith, omega arith, omega arith)

pub same_bytes_lem : (s t : List ℕ) → Bytes s → Bytes t → length s ≡ 4 → length t ≡ 4 → word_of s ≡ word_of t → s ≡ t
unfolding word_of
same_bytes_lem s t f g p q e = ext_get_or 0 s t (p ∙ sym q) (λ i h. at i (omega (arith, p)))
  where
    value : (l : List ℕ) → length l ≡ 4 → word_of l ≡ little_endian (get_or l 0 0) (get_or l 1 0) (get_or l 2 0) (get_or l 3 0)
    value l h = pick_yes _ _ _ (le-leb 4 (length l) (omega (arith, h)))

    each : (get_or s 0 0 ≡ get_or t 0 0) × (get_or s 1 0 ≡ get_or t 1 0) × (get_or s 2 0 ≡ get_or t 2 0) × (get_or s 3 0 ≡ get_or t 3 0)
    each = digits _ _ _ _ _ _ _ _ (f 0) (f 1) (f 2) (f 3) (g 0) (g 1) (g 2) (g 3) (sym (value s p) ∙ e ∙ value t q)

    at : (i : ℕ) → i < 4 → get_or s i 0 ≡ get_or t i 0
    at zero h = each.0
    at (suc zero) h = each.1
    at (suc (suc zero)) h = each.2
    at (suc (suc (suc zero))) h = each.3
    at (suc (suc (suc (suc i)))) h = absurd (omega arith)
