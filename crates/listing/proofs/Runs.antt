-- Bytes of a class at the front, the first word, and words compared. Assumes nothing.
use Rattle.listing.specs.Names.{◌≡◌, Bool, true, false, List, [], ◌∷◌, ℕ, suc, ◌+◌, ◌-◌, ◌≤◌, ◌<◌, eqb, length, get_or, take, drop, pick, ◌and◌}
use Rattle.listing.specs.Names.{Class}
use Rattle.listing.proofs.Names.{refl, sym, ap, ap₂, ◌∙◌, arith, add-one, part_to_end, drop_of_length-le, length-take}
use Rattle.listing.proofs.Names.{length-drop, drop-cons, drop-drop, pick_yes, pick_no, pick_by, belongs, run_length, unindented}
use Rattle.listing.proofs.Names.{word, rest, same_bytes}
use mathlib.Core.Bool.{◌&&◌}
use lib.Pointwise.{pointwise}

pub run_fits : (c : Class) (l : List ℕ) → run_length c l ≤ length l
unfolding run_length
run_fits c [] = omega arith
run_fits c (x ∷ l) = pick_by (λ (n : ℕ). n ≤ suc (length l)) _ _ _ (λ _. let r = run_fits c l in omega arith) (λ _. omega arith)

-- with i bytes of the class passed, the rest run on
abbrev pub Passed : Class → List ℕ → ℕ → Type 0
Passed c l i = run_length c l ≡ i + run_length c (drop i l)

module _ (c : Class) (l : List ℕ) (i : ℕ) (h : i < length l) (p : Passed c l i) where
  at : run_length c l ≡ i + pick (belongs c (get_or l i 0)) (suc (run_length c (drop (i + 1) l))) 0
  unfolding run_length
  at = p ∙ ap (λ (m : List ℕ). i + run_length c m) (drop-cons l i 0 h) ∙ ap (λ (k : ℕ). i + pick (belongs c (get_or l i 0)) (suc (run_length c (drop k l))) 0) (sym (add-one i))

  pub passed_stop : belongs c (get_or l i 0) ≡ false → i ≡ run_length c l
  passed_stop b = sym (at ∙ ap (λ (k : ℕ). i + k) (pick_no _ _ _ b) ∙ (let e : i + 0 ≡ i = omega arith in e))

  pub passed_more : belongs c (get_or l i 0) ≡ true → Passed c l (i + 1)
  passed_more b = at ∙ ap (λ (k : ℕ). i + k) (pick_yes _ _ _ b) ∙ (let e : i + suc (run_length c (drop (i + 1) l)) ≡ i + 1 + run_length c (drop (i + 1) l) = omega arith in e)

pub passed_all : (c : Class) (l : List ℕ) (i : ℕ) → i ≤ length l → length l ≤ i → Passed c l i → i ≡ run_length c l
unfolding run_length
passed_all c l i g h p = sym (p ∙ ap (λ (m : List ℕ). i + run_length c m) (drop_of_length-le l {i = i} h) ∙ (let e : i + 0 ≡ i = omega arith in e))

-- the part that the first word is, and the part behind it
pub word_part : (l : List ℕ) (from to : ℕ) → from ≡ run_length Class.Blank l → to ≡ run_length Class.Blank l + run_length Class.Solid (unindented l) → take (to - from) (drop from l) ≡ word l
unfolding word
word_part l from to e f =
    ap (λ (n : ℕ). take (to - n) (drop n l)) e
    ∙ ap (λ (n : ℕ). take (n - run_length Class.Blank l) (unindented l)) f
    ∙ ap (λ (n : ℕ). take n (unindented l)) (let z : run_length Class.Blank l + run_length Class.Solid (unindented l) - run_length Class.Blank l ≡ run_length Class.Solid (unindented l) = omega arith in z)

pub rest_part : (l : List ℕ) (to : ℕ) → to ≡ run_length Class.Blank l + run_length Class.Solid (unindented l) → take (length l - to) (drop to l) ≡ rest l
unfolding rest
rest_part l to f = part_to_end l to ∙ ap (λ (n : ℕ). drop n l) f ∙ sym (drop-drop (run_length Class.Solid (unindented l)) (run_length Class.Blank l) l)

pub word_fits : (l : List ℕ) → run_length Class.Blank l + run_length Class.Solid (unindented l) ≤ length l
word_fits l = omega (arith, run_fits Class.Blank l, run_fits Class.Solid (unindented l), length-drop (run_length Class.Blank l) l)

pub word-length : (l : List ℕ) → length (word l) ≡ run_length Class.Solid (unindented l)
unfolding word
word-length l = omega (arith, length-take (run_length Class.Solid (unindented l)) (unindented l), run_fits Class.Solid (unindented l))

-- the first word, and what stands behind it
module _ (l : List ℕ) (a b : ℕ) (e : a ≡ run_length Class.Blank l) (f : b ≡ run_length Class.Solid (take (length l - a) (drop a l))) where
  on : take (length l - a) (drop a l) ≡ unindented l
  on = part_to_end l a ∙ ap (λ (n : ℕ). drop n l) e

  pub first_word : take b (take (length l - a) (drop a l)) ≡ word l
  unfolding word
  first_word = ap₂ take (f ∙ ap (run_length Class.Solid) on) on

  pub behind_word : drop b (take (length l - a) (drop a l)) ≡ rest l
  unfolding rest
  behind_word = ap₂ drop (f ∙ ap (run_length Class.Solid) on) on

-- the machine's test of two words
pub same_is : (a b : List ℕ) → pointwise eqb a b ≡ same_bytes a b
unfolding same_bytes ◌and◌
same_is [] [] = refl
same_is [] (y ∷ b) = refl
same_is (x ∷ a) [] = refl
same_is (x ∷ a) (y ∷ b) = both (eqb x y) (same_is a b)
  where
    both : (c : Bool) {s t : Bool} → s ≡ t → (c && s) ≡ (c and t)
    both true e = e
    both false e = refl
