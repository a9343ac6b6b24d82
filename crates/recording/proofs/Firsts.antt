-- The first call that is not as said. Assumes nothing.
use Rattle.recording.specs.Names.{◌≡◌, List, Bool, true, false, ℕ, zero, suc, ◌+◌, ◌-◌, ◌*◌, ◌%◌, ◌<◌, ◌≤◌, length, min, is_good, call_at}
use Rattle.recording.specs.Blocks.{most_calls}
use Rattle.recording.specs.Writing.{records_in, bad_call}
use Rattle.recording.proofs.Names.{refl, sym, ◌∙◌, ap, arith, subst, pick_yes, pick_no, pick_by, lt-leb, first_bad}
use mathlib.Core.Bool.{false≢true}
use native.Mathlib.Decide.{dec_le}

-- record i, then those behind it
pub first_on : (l : List ℕ) (n i : ℕ) → i < n → is_good (call_at l (12 * i)) ≡ true → first_bad l i (n - i) ≡ first_bad l (i + 1) (n - (i + 1))
unfolding first_bad
first_on l n i h g = ap (first_bad l i) (let e : n - i ≡ suc (n - (i + 1)) = omega arith in e) ∙ pick_yes _ _ _ g

pub first_here : (l : List ℕ) (n i : ℕ) → i < n → is_good (call_at l (12 * i)) ≡ false → first_bad l i (n - i) ≡ i
unfolding first_bad
first_here l n i h g = ap (first_bad l i) (let e : n - i ≡ suc (n - (i + 1)) = omega arith in e) ∙ pick_no _ _ _ g

pub first-none : (l : List ℕ) (n i : ℕ) → i ≤ n → n ≤ i → first_bad l i (n - i) ≡ i
unfolding first_bad
first-none l n i a h = ap (first_bad l i) (let e : n - i ≡ 0 = omega arith in e)

pub first-start : (l : List ℕ) (n : ℕ) → first_bad l 0 n ≡ first_bad l 0 (n - 0)
first-start l n = ap (first_bad l 0) (let e : n ≡ n - 0 = omega arith in e)

-- it is none behind those looked at, and before it all are as said
pub first-le : (l : List ℕ) (i n : ℕ) → first_bad l i n ≤ i + n
unfolding first_bad
first-le l i zero = omega arith
first-le l i (suc n) = pick_by (λ (x : ℕ). x ≤ i + suc n) _ _ _ (λ _. omega (arith, first-le l (i + 1) n)) (λ _. omega arith)

first-ge : (l : List ℕ) (i n : ℕ) → i ≤ first_bad l i n
unfolding first_bad
first-ge l i zero = omega arith
first-ge l i (suc n) = pick_by (λ (x : ℕ). i ≤ x) _ _ _ (λ _. omega (arith, first-ge l (i + 1) n)) (λ _. omega arith)

pub first_good : (l : List ℕ) (i n j : ℕ) → i ≤ j → j < first_bad l i n → is_good (call_at l (12 * j)) ≡ true
unfolding first_bad
first_good l i zero j a h = absurd (let f : ⊥ = omega arith in f)
first_good l i (suc n) j a h =
    by_test (first_good l (i + 1) n j) (is_good (call_at l (12 * i))) refl (dec_le (i + 1) j)
  where
    by_test : (i + 1 ≤ j → j < first_bad l (i + 1) n → is_good (call_at l (12 * j)) ≡ true) → (t : Bool) → is_good (call_at l (12 * i)) ≡ t → Dec (i + 1 ≤ j)
        → is_good (call_at l (12 * j)) ≡ true
    by_test on true e (yes g) = on g (subst (λ (x : ℕ). j < x) (pick_yes _ _ _ e) h)
    by_test on true e (no g) = ap (λ (x : ℕ). is_good (call_at l (12 * x))) (let z : j ≡ i = omega arith in z) ∙ e
    by_test on false e d = absurd (let f : ⊥ = omega (arith, subst (λ (x : ℕ). j < x) (pick_no _ _ _ e) h) in f)

pub first-all : (l : List ℕ) (i n : ℕ) → ((j : ℕ) → i ≤ j → j < i + n → is_good (call_at l (12 * j)) ≡ true) → first_bad l i n ≡ i + n
unfolding first_bad
first-all l i zero h = omega arith
first-all l i (suc n) h =
    pick_yes _ _ _ (h i (omega arith) (omega arith)) ∙ first-all l (i + 1) n (λ j a b. h j (omega arith) (omega arith)) ∙ (let e : i + 1 + n ≡ i + suc n = omega arith in e)

-- the one that it names is not as said
pub first-wrong : (l : List ℕ) (i n : ℕ) → first_bad l i n < i + n → is_good (call_at l (12 * first_bad l i n)) ≡ false
unfolding first_bad
first-wrong l i zero h = absurd (let f : ⊥ = omega arith in f)
first-wrong l i (suc n) h = by_test (first-wrong l (i + 1) n) (is_good (call_at l (12 * i))) refl
  where
    by_test : (first_bad l (i + 1) n < i + 1 + n → is_good (call_at l (12 * first_bad l (i + 1) n)) ≡ false) → (t : Bool) → is_good (call_at l (12 * i)) ≡ t
        → is_good (call_at l (12 * first_bad l i (suc n))) ≡ false
    by_test on true e =
        ap (λ (k : ℕ). is_good (call_at l (12 * k))) (pick_yes _ _ _ e) ∙ on (omega (arith, subst (λ (k : ℕ). k < i + suc n) (pick_yes _ _ _ e) h))
    by_test on false e = ap (λ (k : ℕ). is_good (call_at l (12 * k))) (pick_no _ _ _ e) ∙ e

-- and it is the only one before which all are, and which is not or is the one behind them
pub first-is : (l : List ℕ) (i n k : ℕ) → i ≤ k → k ≤ i + n → ((j : ℕ) → i ≤ j → j < k → is_good (call_at l (12 * j)) ≡ true)
    → (k < i + n → is_good (call_at l (12 * k)) ≡ false) → first_bad l i n ≡ k
unfolding first_bad
first-is l i zero k a b g w = omega arith
first-is l i (suc n) k a b g w = elim (dec_le k i) [
  | yes h ↦
      let e : k ≡ i = omega arith in
      pick_no _ _ _ (ap (λ (j : ℕ). is_good (call_at l (12 * j))) (sym e) ∙ w (omega arith)) ∙ sym e
  | no h ↦ pick_yes _ _ _ (g i (omega arith) (omega arith)) ∙ first-is l (i + 1) n k (omega arith) (omega arith) (λ j x y. g j (omega arith) y) (λ y. w (omega arith))
]

-- a short record is not as said
short_bad : (l : List ℕ) (at : ℕ) → length l < at + 12 → is_good (call_at l at) ≡ false
unfolding call_at
short_bad l at h = ap is_good (pick_no _ _ _ (lt-leb _ _ h))

-- calls that are accepted: whole records, no more than the most, each as said
pub record CallsAccepted (l : List ℕ) : Type 0 where
  pub whole : length l % 12 ≡ 0
  pub few : records_in l ≤ most_calls
  pub each : (j : ℕ) → j < records_in l → is_good (call_at l (12 * j)) ≡ true

pub accepted_by : (l : List ℕ) → records_in l ≤ bad_call l → CallsAccepted l
accepted_by l h = record { whole = whole; few = few; each = each }
  where
    few : records_in l ≤ most_calls
    few = omega (arith, first-le l 0 (min (records_in l) most_calls))

    each : (j : ℕ) → j < records_in l → is_good (call_at l (12 * j)) ≡ true
    each j g = first_good l 0 (min (records_in l) most_calls) j (omega arith) (omega arith)

    whole : length l % 12 ≡ 0
    whole = elim (dec_le 1 (length l % 12)) [
      | no g ↦ omega arith
      | yes g ↦
          absurd (false≢true (sym (short_bad l (12 * (records_in l - 1)) (omega arith)) ∙ each (records_in l - 1) (omega arith)))
    ]
