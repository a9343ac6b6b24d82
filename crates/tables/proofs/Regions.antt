-- Which words of a table stand for a mapping's region: one law over the number of low bits. Assumes nothing.
use Rattle.std.proofs.Common.{Option, None}
use Rattle.walk.specs.declared.Table.{Table}
use Rattle.std.proofs.Common.{Some}
use Rattle.tables.specs.Names.{◌≡◌, Bool, false, List, ℕ, ◌+◌, ◌*◌, ◌-◌, ◌/◌, ◌%◌, ◌^◌, eqb, upper, low_bits, Mapping, holder}
use Rattle.tables.proofs.Names.{refl, sym, ap, ap₂, ◌∙◌, subst, true, ◌∷◌, ◌≤◌, ◌<◌, arith, dec_le, pow_pos, lit≤, eq-eqb, pick_yes, pick_no}
use Rattle.tables.proofs.Names.{step_bits, second_word}
use native.Mathlib.Nat.{mul-add-div_right, mul_assoc, mul-le-mul_right, mul-lt-mul_of_pos_right, le_of_mul-le-mul_right, add-mul, mod-lt, div-mul-le_self}
use lib.Pow.{pow-add, shl-shr, split, high}
use borrow.Author.Tests.{ne_eqb, eqb-true, eqb-false}
use Rattle.page.proofs.Lower.{agree_up, upper_lt, upper-le}
use Rattle.page.proofs.Slot.{low_bits-le}
use Rattle.records.specs.Mappings.{holds}
use Rattle.tables.specs.Words.{page_word, address_of, word_in, words_in}
use Rattle.tables.proofs.Fits.{Fit}

-- an address lies in the page of another exactly where it lies between that page's ends
pub page_of_lem : (n x y : ℕ) → upper n y ≤ x → x < upper n y + 2 ^ n → x / 2 ^ n ≡ y / 2 ^ n
unfolding upper
page_of_lem n x y lo hi =
    let r : ℕ = x - y / 2 ^ n * 2 ^ n in
    let rl : r < 2 ^ n = omega arith in
    ap (λ (z : ℕ). z / 2 ^ n) (let e : x ≡ y / 2 ^ n * 2 ^ n + r = omega arith in e) ∙ high (y / 2 ^ n) n rl

pub page-ends : (n x y : ℕ) → x / 2 ^ n ≡ y / 2 ^ n → (upper n y ≤ x) × (x < upper n y + 2 ^ n)
unfolding upper
page-ends n x y e =
    let s : y / 2 ^ n * 2 ^ n + x % 2 ^ n ≡ x = ap (λ (q : ℕ). q * 2 ^ n + x % 2 ^ n) (sym e) ∙ split x n in
    let m = mod-lt x (pow_pos n) in
    (omega arith, omega arith)

-- a power of two and a smaller one
pub power : (s n : ℕ) → s ≤ n → 2 ^ n ≡ 2 ^ (n - s) * 2 ^ s
power s n h = ap (λ (k : ℕ). 2 ^ k) (let e : n ≡ n - s + s = omega arith in e) ∙ pow-add 2 (n - s) s

pub whole_words_lem : (s n : ℕ) → s ≤ n → 2 ^ n / 2 ^ s * 2 ^ s ≡ 2 ^ n
whole_words_lem s n h =
    ap (λ (k : ℕ). k / 2 ^ s * 2 ^ s) (power s n h) ∙ ap (λ (k : ℕ). k * 2 ^ s) (shl-shr (2 ^ (n - s)) s) ∙ sym (power s n h)

pub whole-start : (s n r : ℕ) → s ≤ n → upper n r / 2 ^ s * 2 ^ s ≡ upper n r
unfolding upper
whole-start s n r h =
    let e : r / 2 ^ n * 2 ^ n ≡ r / 2 ^ n * 2 ^ (n - s) * 2 ^ s = ap (λ (k : ℕ). r / 2 ^ n * k) (power s n h) ∙ sym (mul_assoc (r / 2 ^ n) (2 ^ (n - s)) (2 ^ s)) in
    ap (λ (k : ℕ). k / 2 ^ s * 2 ^ s) e ∙ ap (λ (k : ℕ). k * 2 ^ s) (shl-shr (r / 2 ^ n * 2 ^ (n - s)) s) ∙ sym e

-- megabyte i does not matter to the bits inside it
pub inside : (n i y : ℕ) → n ≤ 20 → (i * 2 ^ 20 + y) / 2 ^ n ≡ i * 2 ^ (20 - n) + y / 2 ^ n
inside n i y h =
    ap (λ (k : ℕ). (k + y) / 2 ^ n) (ap (λ (k : ℕ). i * k) (power n 20 h) ∙ sym (mul_assoc i (2 ^ (20 - n)) (2 ^ n)))
    ∙ mul-add-div_right (pow_pos n) (i * 2 ^ (20 - n)) y

-- the words of a region: from its first on, as many as it has steps
module _ (s n r x : ℕ) (sn : s ≤ n) where
  ends : (upper n r / 2 ^ s + 2 ^ n / 2 ^ s) * 2 ^ s ≡ upper n r + 2 ^ n
  ends = add-mul (upper n r / 2 ^ s) (2 ^ n / 2 ^ s) (2 ^ s) ∙ ap₂ (λ (a b : ℕ). a + b) (whole-start s n r sn) (whole_words_lem s n sn)

  pub words_inside : upper n r / 2 ^ s ≤ x → x < upper n r / 2 ^ s + 2 ^ n / 2 ^ s → x * 2 ^ s / 2 ^ n ≡ r / 2 ^ n
  words_inside lo hi =
      page_of_lem n (x * 2 ^ s) r
      (subst (λ (k : ℕ). k ≤ x * 2 ^ s) (whole-start s n r sn) (mul-le-mul_right (2 ^ s) lo))
      (subst (λ (k : ℕ). x * 2 ^ s < k) ends (mul-lt-mul_of_pos_right hi (pow_pos s)))

  pub words-within : x * 2 ^ s / 2 ^ n ≡ r / 2 ^ n → (upper n r / 2 ^ s ≤ x) × (x < upper n r / 2 ^ s + 2 ^ n / 2 ^ s)
  words-within e =
      let p = page-ends n (x * 2 ^ s) r e in (
        le_of_mul-le-mul_right (subst (λ (k : ℕ). k ≤ x * 2 ^ s) (sym (whole-start s n r sn)) p.0) (pow_pos s),
        elim (dec_le (upper n r / 2 ^ s + 2 ^ n / 2 ^ s) x) [
          | yes g ↦ absurd (let q = subst (λ (k : ℕ). k ≤ x * 2 ^ s) ends (mul-le-mul_right (2 ^ s) g) in omega (arith, p.1))
          | no g ↦ omega arith
        ],
      )

-- a region's words lie inside its megabyte's table
pub words-end : (s n r : ℕ) → s ≤ n → n ≤ 20 → r < 2 ^ 20 → (upper n r / 2 ^ s + 2 ^ n / 2 ^ s) * 2 ^ s ≤ 2 ^ 20
words-end s n r sn n20 h =
    let p = pow_pos n in
    let l : 2 ^ n - 1 < 2 ^ n = omega arith in
    let e : 20 - n + n ≡ 20 = omega arith in
    let u : upper n r + (2 ^ n - 1) < 2 ^ 20 =
    subst (λ (k : ℕ). upper n r + (2 ^ n - 1) < 2 ^ k) e (upper_lt n (20 - n) r (2 ^ n - 1) (subst (λ (k : ℕ). r < 2 ^ k) (sym e) h) l) in
    subst (λ (k : ℕ). k ≤ 2 ^ 20) (sym (ends s n r 0 sn)) (omega arith)

pub step-le : (t : Option Table) → step_bits t ≤ 20
step-le (Some Table.Fine) = lit≤ tt
step-le (Some Table.Coarse) = lit≤ tt
step-le None = lit≤ tt

-- word x of megabyte i's table stands for a mapping's region exactly where it is one of the region's words
module _ (t : Option Table) (i x : ℕ) (m : Mapping) (fits : Fit (step_bits t) i m) (short : x * 2 ^ step_bits t < 2 ^ 20) where
  abbrev n : ℕ
  n = low_bits m.kind

  abbrev r : ℕ
  r = m.at.0 % 2 ^ 20

  here : m.at.0 / 2 ^ 20 ≡ i → m.at.0 ≡ i * 2 ^ 20 + r
  here e = omega (arith, split m.at.0 20)

  abbrev A : ℕ
  A = i * 2 ^ 20 + x * 2 ^ step_bits t

  apart : (m.at.0 / 2 ^ 20 ≡ i → ⊥) → holds m (address_of t i x) ≡ false
  unfolding holds
  apart ne =
      ne_eqb (A / 2 ^ n) (m.at.0 / 2 ^ n)
      (λ e. ne (sym (agree_up n 20 A m.at.0 (low_bits-le m.kind) e) ∙ (let z : A / 2 ^ 20 ≡ i = omega arith in z)))

  together : m.at.0 / 2 ^ 20 ≡ i → holds m (address_of t i x) ≡ eqb (i * 2 ^ (20 - n) + x * 2 ^ step_bits t / 2 ^ n) (i * 2 ^ (20 - n) + r / 2 ^ n)
  unfolding holds
  together e =
      ap₂ eqb (inside n i (x * 2 ^ step_bits t) (low_bits-le m.kind))
      (ap (λ (a : ℕ). a / 2 ^ n) (here e) ∙ inside n i r (low_bits-le m.kind))

  count : m.at.0 / 2 ^ 20 ≡ i → words_in t i m ≡ 2 ^ n / 2 ^ step_bits t
  unfolding words_in
  count e = pick_yes _ _ _ (eq-eqb _ _ e)

  none : eqb (m.at.0 / 2 ^ 20) i ≡ false → words_in t i m ≡ 0
  unfolding words_in
  none e = pick_no _ _ _ e

  pub held_in : word_in t m ≤ x → x < word_in t m + words_in t i m → holds m (address_of t i x) ≡ true
  held_in lo hi = by_place (eqb (m.at.0 / 2 ^ 20) i) refl
    where
      by_place : (b : Bool) → eqb (m.at.0 / 2 ^ 20) i ≡ b → holds m (address_of t i x) ≡ true
      by_place true e =
          let v = eqb-true _ _ e in
          let w = words_inside (step_bits t) n r x (fits v) lo (subst (λ (k : ℕ). x < word_in t m + k) (count v) hi) in
          together v ∙ eq-eqb _ _ (ap (λ (z : ℕ). i * 2 ^ (20 - n) + z) w)
      by_place false e = absurd (omega (arith, none e))

  pub held_out : ((word_in t m ≤ x) × (x < word_in t m + words_in t i m) → ⊥) → holds m (address_of t i x) ≡ false
  held_out out = by_place (eqb (m.at.0 / 2 ^ 20) i) refl
    where
      by_place : (b : Bool) → eqb (m.at.0 / 2 ^ 20) i ≡ b → holds m (address_of t i x) ≡ false
      by_place true e =
          let v = eqb-true _ _ e in
          together v
          ∙ ne_eqb (i * 2 ^ (20 - n) + x * 2 ^ step_bits t / 2 ^ n) (i * 2 ^ (20 - n) + r / 2 ^ n) (λ q.
          let w = words-within (step_bits t) n r x (fits v) (omega (arith, q)) in
          out (w.0, subst (λ (k : ℕ). x < word_in t m + k) (sym (count v)) w.1))
      by_place false e = apart (eqb-false _ _ e)

  -- so in the table of a list with one mapping more those words are the mapping's, and the others stay
  pub second_in : (ms : List Mapping) → word_in t m ≤ x → x < word_in t m + words_in t i m
      → second_word (m ∷ ms) t i x ≡ page_word (Some m)
  unfolding second_word holder
  second_in ms lo hi = ap page_word (pick_yes _ _ _ (held_in lo hi))

  pub second_out : (ms : List Mapping) → ((word_in t m ≤ x) × (x < word_in t m + words_in t i m) → ⊥) → second_word (m ∷ ms) t i x ≡ second_word ms t i x
  unfolding second_word holder
  second_out ms out = ap page_word (pick_no _ _ _ (held_out out))

  -- they lie inside the table
  pub held-end : (word_in t m + words_in t i m) * 2 ^ step_bits t ≤ 2 ^ 20
  held-end = by_place (eqb (m.at.0 / 2 ^ 20) i) refl
    where
      low : r < 2 ^ 20
      low = mod-lt m.at.0 (pow_pos 20)

      by_place : (b : Bool) → eqb (m.at.0 / 2 ^ 20) i ≡ b → (word_in t m + words_in t i m) * 2 ^ step_bits t ≤ 2 ^ 20
      by_place true e =
          let v = eqb-true _ _ e in
          subst (λ (k : ℕ). (word_in t m + k) * 2 ^ step_bits t ≤ 2 ^ 20) (sym (count v)) (words-end (step_bits t) n r (fits v) (low_bits-le m.kind) low)
      by_place false e =
          subst (λ (k : ℕ). k * 2 ^ step_bits t ≤ 2 ^ 20) (let z : word_in t m ≡ word_in t m + words_in t i m = omega (arith, none e) in z)
          (omega (arith, div-mul-le_self (upper n r) (2 ^ step_bits t), upper-le n r, low))
