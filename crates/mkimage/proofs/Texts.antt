-- Texts at the front of a memory. Assumes nothing.
use Rattle.std.proofs.Common.{Result, Ok}
use Rattle.builder.specs.declared.BuildError.{BuildError}
use Rattle.mkimage.specs.Names.{◌≡◌, List, [], ◌∷◌, ◌++◌, ℕ, zero, suc, ◌+◌, ◌/◌, ◌%◌, ◌≤◌, length, drop}
use Rattle.mkimage.proofs.Names.{refl, sym, ap, ◌∙◌, ◌-◌, arith, outcome, decimal, shown}
use Rattle.page.specs.Words.{megabytes}
use mathlib.Core.Path.{ap₂, subst}
use Prim.Native.Nat.{◌*◌, ◌^◌, ◌<◌}
use native.Mathlib.Nat.{mod-eq_of_lt, le_refl, pow-suc, pow-le-pow_right}
use native.Mathlib.Decide.{dec_le}
use borrow.Author.Tests.{lt-ltb, le-ltb}
use lib.Dec.{lit<}
use lib.ListN.{length-append}
use lib.Seq.{take_at, drop-append-add, drop-drop}
use Rattle.io.specs.Digits.{hex_digit_ascii, last_digits, IsDigitCount}
use Rattle.page.proofs.Picks.{pick_yes, pick_no, pick_by}
use Rattle.records.specs.Mappings.{mappings}
use Rattle.builder.specs.Image.{image}
use Rattle.builder.specs.Build.{answer_of, leaves, build_of}
use Rattle.builder.proofs.Whole.{image_length-is}
use Rattle.builder.proofs.Answers.{accepted, build_answer}
use Rattle.mkimage.specs.Output.{base, decimal_by, refused_text, at_text, line_end, message, output_bytes, shown_in, output_of}
use Rattle.wire.specs.Words.{pasted, Shown}

-- a text behind another
pub front_more : (l o q p s : List ℕ) (at r : ℕ) → shown at o ≡ shown_in p l → shown r q ≡ shown (at + length s) (pasted o at s) → shown r q ≡ shown_in (p ++ s) l
unfolding pasted
front_more l o q p s at r e h =
    let a : at ≡ length p = ap (λ (x : Shown). x.count) e in
    let f : o ≡ p ++ drop (length p) l = ap (λ (x : Shown). x.memory) e in
    let len : length p + length s ≡ length (p ++ s) = sym (length-append p s) in
    h
    ∙ ap₂ (λ (x : ℕ) (d : List ℕ). shown (x + length s) (pasted d x s)) a f
    ∙ ap₂ (λ (t d : List ℕ). shown (length p + length s) ((t ++ s) ++ d)) (take_at p (drop (length p) l) (length p) refl)
    (drop-append-add p (drop (length p) l) (length s) ∙ drop-drop (length s) (length p) l)
    ∙ ap (λ (k : ℕ). shown k ((p ++ s) ++ drop k l)) len

pub count_of : (r n : ℕ) (o l : List ℕ) → shown r o ≡ shown n l → r ≡ n
count_of r n o l e = ap (λ (x : Shown). x.count) e

-- a number's text has a digit at least, and no more than asked
pub decimal-length : (k n : ℕ) → length (decimal_by k n) ≤ k
unfolding decimal_by
decimal-length zero n = le_refl zero
decimal-length (suc k) n =
    pick_by (λ (l : List ℕ). length l ≤ suc k) _ _ _ (λ _. let z : 1 ≤ suc k = omega arith in z)
    (λ _. omega (arith, length-append (decimal_by k (n / 10)) ((48 + n % 10) ∷ []), decimal-length k (n / 10)))

glyph-is : (d : ℕ) → d < 10 → hex_digit_ascii d ≡ 48 + d
glyph-is d h = simp (lt-ltb d 10 h)

-- the powers of ten
ten_more : (k : ℕ) → 10 ^ suc k ≡ 10 ^ k * 10
ten_more k = pow-suc 10 k

ten_pos : (k : ℕ) → 0 < 10 ^ k
ten_pos zero = lit< tt
ten_pos (suc k) = omega (arith, ten_pos k, ten_more k)

-- the fewest digits are the number's text
pub digits_are : (j k n : ℕ) → IsDigitCount 10 1 n k → k ≤ j → last_digits 10 k n ≡ decimal_by j n
unfolding decimal_by
digits_are j zero n f h = absurd (omega (arith, f.0))
digits_are zero (suc k) n f h = absurd (omega arith)
digits_are (suc j) (suc zero) n f h =
    let l : n < 10 = f.1 in
    ap (λ (d : ℕ). d ∷ []) (glyph-is (n % 10) (omega arith) ∙ ap (λ (d : ℕ). 48 + d) (mod-eq_of_lt l)) ∙ sym (pick_yes _ _ _ (lt-ltb n 10 l))
digits_are (suc j) (suc (suc k)) n f h =
    let top : n < 10 ^ suc (suc k) = f.1 in
    let low : 10 ^ suc k ≤ n = subst (λ (e : ℕ). 10 ^ e ≤ n) (let z : suc (suc k) - 1 ≡ suc k = omega arith in z) (f.2 (omega arith)) in
    let p = ten_more k in
    let q = ten_more (suc k) in
    let one = ten_pos k in
    ap₂ (λ (a b : List ℕ). a ++ b)
    (digits_are j (suc k) (n / 10) (omega arith, omega arith, λ c. shorter k n low c) (omega arith))
    (ap (λ (d : ℕ). d ∷ []) (glyph-is (n % 10) (omega arith)))
    ∙ sym (pick_no _ _ _ (le-ltb n 10 (omega arith)))
  where
    shorter : (k n : ℕ) → 10 ^ suc k ≤ n → 1 < suc k → 10 ^ (suc k - 1) ≤ n / 10
    shorter k n l c = subst (λ (e : ℕ). 10 ^ e ≤ n / 10) (let z : k ≡ suc k - 1 = omega arith in z) (omega (arith, ten_more k))

-- a number of 64 bits has at most 20 digits
pub fewest_twenty : (n k : ℕ) → IsDigitCount 10 1 n k → n < 2 ^ 64 → k ≤ 20
fewest_twenty n k f h = elim (dec_le k 20) [
  | yes g ↦ g
  | no g ↦ absurd (let p : 10 ^ 20 ≤ 10 ^ (k - 1) = pow-le-pow_right (lit< tt) (let z : 20 ≤ k - 1 = omega arith in z) in let q : 10 ^ (k - 1) ≤ n = f.2 (omega arith) in omega arith)
]

-- a text of k bytes is what a longer buffer begins with
pub pasted-taken : (l : List ℕ) (at : ℕ) (t s : List ℕ) (r : ℕ) (o : List ℕ) → t ≡ s → shown r o ≡ shown (at + length t) (pasted l at t)
    → shown r o ≡ shown (at + length s) (pasted l at s)
pasted-taken l at t s r o e h = h ∙ ap (λ (x : List ℕ). shown (at + length x) (pasted l at x)) e

-- the answer of a build and what it left, as what is shown
module _ (rs l : List ℕ) (room : 64 ≤ length l) where
  shown_by : (b : Result ℕ BuildError) → b ≡ answer_of rs base (length l) → shown_in (output_bytes b (image megabytes (mappings rs) base)) l ≡ output_of rs l
  unfolding output_of
  shown_by b e = ap (λ (x : Result ℕ BuildError). shown_in (output_bytes x (image megabytes (mappings rs) base)) l) e ∙ sym (pick_no _ _ _ (le-ltb (length l) 64 room))

  pub shown-image : (n : ℕ) (o : List ℕ) → outcome (Ok n) o ≡ build_of rs base l → shown n o ≡ output_of rs l
  shown-image n o e =
      let b = build_answer rs base l o (Ok n) e in
      let a = accepted rs base (length l) n (sym b.0) in
      let len : n ≡ length (image megabytes (mappings rs) base) = a.length-is ∙ sym (image_length-is megabytes (mappings rs) base) in
      ap (shown n) b.1 ∙ ap (λ (k : ℕ). shown k (image megabytes (mappings rs) base ++ drop k l)) len ∙ shown_by (Ok n) b.0

  pub shown_refusal : (b : Result ℕ BuildError) (o : List ℕ) (s : Shown) → outcome b o ≡ build_of rs base l → leaves b (image megabytes (mappings rs) base) l ≡ l
      → s ≡ shown_in (output_bytes b (image megabytes (mappings rs) base)) o → s ≡ output_of rs l
  shown_refusal b o s e same h =
      let a = build_answer rs base l o b e in
      h ∙ ap (shown_in (output_bytes b (image megabytes (mappings rs) base))) (a.1 ∙ same) ∙ shown_by b a.0

pub shown-nothing : (rs l : List ℕ) → length l < 64 → shown 0 l ≡ output_of rs l
unfolding output_of
shown-nothing rs l h = sym (pick_yes _ _ _ (lt-ltb (length l) 64 h))

-- what is shown lies in the memory
pub shown_fits : (rs l o : List ℕ) (r : ℕ) → shown r o ≡ output_of rs l → r ≤ length o
unfolding output_of
shown_fits rs l o r e =
    subst (λ (x : Shown). x.count ≤ length x.memory) (sym e)
    (pick_by (λ (x : Shown). x.count ≤ length x.memory) _ _ _ (λ _. fits []) (λ _. fits (output_bytes (answer_of rs base (length l)) (image megabytes (mappings rs) base))))
  where
    fits : (w : List ℕ) → length w ≤ length (w ++ drop (length w) l)
    fits w = omega (arith, length-append w (drop (length w) l))

-- the message, text by text
pub message-is : (l o p q r s : List ℕ) (k i a b c d e : ℕ)
    → shown a o ≡ shown (0 + length refused_text) (pasted l 0 refused_text)
    → shown b p ≡ shown (a + length (decimal k)) (pasted o a (decimal k))
    → shown c q ≡ shown (b + length at_text) (pasted p b at_text)
    → shown d r ≡ shown (c + length (decimal i)) (pasted q c (decimal i))
    → shown e s ≡ shown (d + length line_end) (pasted r d line_end)
    → shown e s ≡ shown_in (message k i) l
unfolding message
message-is l o p q r s k i a b c d e f g h u v =
    let x1 = front_more l l o [] refused_text 0 a refl f in
    let x2 = front_more l o p refused_text (decimal k) a b x1 g in
    let x3 = front_more l p q (refused_text ++ decimal k) at_text b c x2 h in
    let x4 = front_more l q r ((refused_text ++ decimal k) ++ at_text) (decimal i) c d x3 u in
    front_more l r s (((refused_text ++ decimal k) ++ at_text) ++ decimal i) line_end d e x4 v
