-- Groups of equal words, and words that are broken. Assumes nothing.
use Rattle.audit.specs.Names.{◌≡◌, Bool, true, false, not, List, ℕ, zero, suc, ◌+◌, ◌-◌, ◌*◌, ◌/◌, ◌%◌, ◌<◌, ◌≤◌, eqb, ◌and◌, Table, second_of}
use Rattle.audit.proofs.Names.{refl, sym, ap, ap₂, ◌∙◌, arith, dec_le, eq-eqb, eqb-true, and_left, and_right, and_yes}
use Rattle.audit.proofs.Names.{not-false, table_word, taken, taken_at, all_are, broken, InRun}
use mathlib.Core.Bool.{◌&&◌}
use native.Mathlib.Nat.{div-add-mod', mul-add-mod_self_right, mul-add-div_right, mod-eq_of_lt, div-eq_of_lt, mod-lt}

-- the aligned group of n words that begins at j has the words up to j + n
module _ (n j k : ℕ) (some : 0 < n) (aligned : j % n ≡ 0) (from : j ≤ k) (to : k < j + n) where
  start : j ≡ j / n * n
  start = omega (arith, div-add-mod' j n, aligned)

  place : k ≡ j / n * n + (k - j)
  place = omega (arith, start)

  pub group_start : k / n * n ≡ j
  group_start =
      ap (λ (x : ℕ). x / n * n) place
      ∙ ap (λ (x : ℕ). x * n) (mul-add-div_right some (j / n) (k - j) ∙ ap (λ (x : ℕ). j / n + x) (div-eq_of_lt (let z : k - j < n = omega arith in z)))
      ∙ ap (λ (x : ℕ). x * n) (let z : j / n + 0 ≡ j / n = omega arith in z)
      ∙ sym start

  pub group_place : k % n ≡ k - j
  group_place = ap (λ (x : ℕ). x % n) place ∙ mul-add-mod_self_right (j / n) n (k - j) ∙ mod-eq_of_lt (let z : k - j < n = omega arith in z)

-- a word lies in its group
pub in_group : (n k : ℕ) → 0 < n → (k / n * n ≤ k) × (k < k / n * n + n)
in_group n k h = let e = div-add-mod' k n in let l = mod-lt k h in (omega arith, omega arith)

-- words that are all equal, one by one
module _ (l : List ℕ) (o w : ℕ) where
  pub all_at : (n j : ℕ) → all_are l o w j n ≡ true → InRun j n (λ k. table_word l o k ≡ w)
  unfolding all_are
  all_at zero j e k h g = absurd (omega arith)
  all_at (suc n) j e k h g = elim (dec_le k j) [
    | yes q ↦ ap (table_word l o) (let z : k ≡ j = omega arith in z) ∙ eqb-true _ _ (and_left _ _ e)
    | no q ↦ all_at n (suc j) (and_right (eqb (table_word l o j) w) _ e) k (omega arith) (omega arith)
  ]

  pub all_are_lem : (n j : ℕ) → InRun j n (λ k. table_word l o k ≡ w) → all_are l o w j n ≡ true
  unfolding all_are
  all_are_lem zero j f = refl
  all_are_lem (suc n) j f = and_yes _ _ (eq-eqb _ _ (f j (omega arith) (omega arith))) ∙ all_are_lem n (suc j) (λ k h g. f k (omega arith) (omega arith))

-- a broken word, by its group
module _ (t : Table) (l : List ℕ) (o k : ℕ) where
  abbrev r : ℕ
  r = taken_at t l o k

  pub equal-unbroken : InRun (k / taken_at t l o k * taken_at t l o k) (taken_at t l o k) (λ i. table_word l o i ≡ table_word l o k) → broken t l o k ≡ false
  unfolding broken
  equal-unbroken f = ap not (all_are_lem l o (table_word l o k) r (k / r * r) f)

  pub unbroken-equal : broken t l o k ≡ false → InRun (k / taken_at t l o k * taken_at t l o k) (taken_at t l o k) (λ i. table_word l o i ≡ table_word l o k)
  unfolding broken
  unbroken-equal e = all_at l o (table_word l o k) r (k / r * r) (not-false _ e)

  -- a page that takes a word, or none, stands over its whole group
  pub single_unbroken : taken_at t l o k ≤ 1 → broken t l o k ≡ false
  single_unbroken h =
      equal-unbroken
      (λ i g f.
      let one : r ≡ 1 = omega arith in
      let at : k / r * r ≡ k = ap (λ (x : ℕ). k / x * x) one ∙ (let z : k / 1 * 1 ≡ k = omega arith in z) in
      ap (table_word l o) (let z : i ≡ k = omega arith in z))

  -- a page whose group does not begin with its word is broken
  pub headless : 0 < taken_at t l o k → (taken_at t l o (k / taken_at t l o k * taken_at t l o k) ≡ taken_at t l o k → ⊥) → broken t l o k ≡ true
  headless some odd = by (broken t l o k) refl
    where
      by : (b : Bool) → broken t l o k ≡ b → broken t l o k ≡ true
      by true e = e
      by false e = absurd (odd (ap (λ (w : ℕ). taken t (second_of t w)) (unbroken-equal e (k / r * r) (omega arith) (omega arith))))

-- the code's look at words, one after the other
module _ (l : List ℕ) (o w j n k : ℕ) (same : Bool) where
  and_assoc : (a b c : Bool) → (a && (b and c)) ≡ ((a && b) && c)
  unfolding ◌and◌
  and_assoc true true c = refl
  and_assoc true false c = refl
  and_assoc false b c = refl

  pub all_turn : (x : ℕ) → k < n → x ≡ table_word l o (j + k) → (same && all_are l o w (j + k) (n - k)) ≡ ((same && eqb x w) && all_are l o w (j + (k + 1)) (n - (k + 1)))
  unfolding all_are
  all_turn x h e =
      ap (λ (m : ℕ). same && all_are l o w (j + k) m) (let z : n - k ≡ suc (n - (k + 1)) = omega arith in z)
      ∙ ap₂ (λ (b : Bool) (i : ℕ). same && (b and all_are l o w i (n - (k + 1)))) (ap (λ (y : ℕ). eqb y w) (sym e)) (let z : suc (j + k) ≡ j + (k + 1) = omega arith in z)
      ∙ and_assoc same (eqb x w) (all_are l o w (j + (k + 1)) (n - (k + 1)))

  pub all_end : n ≤ k → all_are l o w j n ≡ (same && all_are l o w (j + k) (n - k)) → same ≡ all_are l o w j n
  unfolding all_are
  all_end h e = sym (e ∙ ap (λ (m : ℕ). same && all_are l o w (j + k) m) (let z : n - k ≡ 0 = omega arith in z) ∙ last same)
    where
      last : (b : Bool) → (b && true) ≡ b
      last true = refl
      last false = refl

-- what a word that was read takes
pub taken_is : (t : Table) (l : List ℕ) (o k w r : ℕ) → w ≡ table_word l o k → r ≡ taken t (second_of t w) → r ≡ taken_at t l o k
taken_is t l o k w r e f = f ∙ ap (λ (x : ℕ). taken t (second_of t x)) e
