-- Words that differ, counted, and the first of them. Assumes nothing.
use Rattle.parting.specs.Names.{◌≡◌, Bool, false, true, List, ℕ, zero, suc, ◌+◌, ◌-◌, ◌<◌, ◌≤◌, pick}
use mir.Val.{bool_byte}
use Rattle.parting.proofs.Names.{refl, sym, ap, ap₂, subst, ◌∙◌, arith, add-one, pick_yes, pick_no, pick_by, differs_at, differing, first_differing}

-- what a word that differs counts
abbrev counts : Bool → ℕ
counts t = pick t 1 0

counts_few : (t : Bool) → counts t ≤ 1
counts_few t = pick_by (λ (x : ℕ). x ≤ 1) t 1 0 (λ _. omega arith) (λ _. omega arith)

pub counts_none : (t : Bool) → counts t ≡ 0 → t ≡ false
counts_none false e = refl
counts_none true e = absurd (omega (arith, sym (pick_yes true 1 0 refl) ∙ e))

-- the machine counts so
byte_counts : (t : Bool) → bool_byte t ≡ counts t
byte_counts t = sym (pick_by (λ (x : ℕ). x ≡ bool_byte t) t 1 0 (λ e. ap bool_byte (sym e)) (λ e. ap bool_byte (sym e)))

pub byte-few : (t : Bool) → bool_byte t ≤ 1
byte-few t = subst (λ (x : ℕ). x ≤ 1) (sym (byte_counts t)) (counts_few t)

module _ (a b : List ℕ) where
  -- the count begins with none, and goes on by a word
  pub count_none : differing a b 0 ≡ 0
  unfolding differing
  count_none = refl

  pub count_next : (k i d : ℕ) (t : Bool) → differing a b (k + i) ≡ differing a b k + d → t ≡ differs_at a b (k + i)
      → differing a b (k + (i + 1)) ≡ differing a b k + (d + bool_byte t)
  unfolding differing
  count_next k i d t e f =
      ap (differing a b) (let z : k + (i + 1) ≡ suc (k + i) = omega arith in z)
      ∙ ap₂ ◌+◌ e (ap counts (sym f) ∙ sym (byte_counts t))
      ∙ omega arith

  -- the counts of two runs make that of both
  pub count-both : (k j n d r : ℕ) → j ≤ n → differing a b j ≡ differing a b k + d → differing a b (j + (n - j)) ≡ differing a b j + r
      → differing a b n ≡ differing a b k + (d + r)
  count-both k j n d r h e f = ap (differing a b) (let z : n ≡ j + (n - j) = omega arith in z) ∙ omega arith

  pub differing-few : (n : ℕ) → differing a b n ≤ n
  unfolding differing
  differing-few zero = omega arith
  differing-few (suc n) = omega (arith, differing-few n, counts_few (differs_at a b n))

  pub differing_grows : (k n : ℕ) → differing a b k ≤ differing a b (n + k)
  unfolding differing
  differing_grows k zero = subst (λ (j : ℕ). differing a b k ≤ differing a b j) (let z : k ≡ 0 + k = omega arith in z) (omega arith)
  differing_grows k (suc n) =
      subst (λ (j : ℕ). differing a b k ≤ differing a b j) (let z : suc (n + k) ≡ suc n + k = omega arith in z) (omega (arith, differing_grows k n))

  -- a word that differs is the first, one that agrees is not
  pub first_here : (k n : ℕ) → 0 < n → differs_at a b k ≡ true → first_differing a b k n ≡ k
  unfolding first_differing
  first_here k zero h e = absurd (omega arith)
  first_here k (suc n) h e = pick_yes _ _ _ e

  first_later : (k n : ℕ) → differs_at a b k ≡ false → first_differing a b k (suc n) ≡ first_differing a b (suc k) n
  unfolding first_differing
  first_later k n e = pick_no _ _ _ e

  pub first-none : (k : ℕ) → first_differing a b k 0 ≡ k
  unfolding first_differing
  first-none k = refl

  pub first_next : (k n : ℕ) → k < n → differs_at a b k ≡ false → first_differing a b k (n - k) ≡ first_differing a b (k + 1) (n - (k + 1))
  first_next k n h e =
      ap (first_differing a b k) (let z : n - k ≡ suc (n - (k + 1)) = omega arith in z)
      ∙ first_later k (n - (k + 1)) e
      ∙ ap (λ (j : ℕ). first_differing a b j (n - (k + 1))) (sym (add-one k))

  -- where the count does not rise over n words, the first that differs is none of them
  pub first_past : (k n m : ℕ) → differing a b (n + k) ≡ differing a b k → first_differing a b k (n + m) ≡ first_differing a b (n + k) m
  unfolding differing
  first_past k zero m e = ap₂ (first_differing a b) (let z : k ≡ 0 + k = omega arith in z) (let z : 0 + m ≡ m = omega arith in z)
  first_past k (suc n) m e =
      let f = differing_grows k n in
      let g : differing a b (suc (n + k)) ≡ differing a b k = ap (differing a b) (let z : suc (n + k) ≡ suc n + k = omega arith in z) ∙ e in
      ap (first_differing a b k) (let z : suc n + m ≡ n + suc m = omega arith in z)
      ∙ first_past k n (suc m) (omega arith)
      ∙ first_later (n + k) m (counts_none (differs_at a b (n + k)) (omega arith))
      ∙ ap (λ (j : ℕ). first_differing a b j m) (let z : suc (n + k) ≡ suc n + k = omega arith in z)

  pub first-behind : (k m n d : ℕ) → k + m ≤ n → differing a b (k + m) ≡ differing a b k + d → d ≡ 0
      → first_differing a b k (n - k) ≡ first_differing a b (k + m) (n - (k + m))
  first-behind k m n d h e f =
      let z : m + k ≡ k + m = omega arith in
      ap (first_differing a b k) (let y : n - k ≡ m + (n - (k + m)) = omega arith in y)
      ∙ first_past k m (n - (k + m)) (ap (differing a b) z ∙ e ∙ omega arith)
      ∙ ap (λ (j : ℕ). first_differing a b j (n - (k + m))) z

  -- the first is among the words or behind them, and no word before it differs
  pub first-from : (k n : ℕ) → k ≤ first_differing a b k n
  unfolding first_differing
  first-from k zero = omega arith
  first-from k (suc n) = pick_by (λ (j : ℕ). k ≤ j) _ _ _ (λ _. omega arith) (λ _. omega (arith, first-from (suc k) n))

  pub first_to : (k n : ℕ) → first_differing a b k n ≤ k + n
  unfolding first_differing
  first_to k zero = omega arith
  first_to k (suc n) = pick_by (λ (j : ℕ). j ≤ k + suc n) _ _ _ (λ _. omega arith) (λ _. omega (arith, first_to (suc k) n))

  pub none_before : (k n : ℕ) → differing a b (first_differing a b k n) ≡ differing a b k
  unfolding differing first_differing
  none_before k zero = refl
  none_before k (suc n) =
      pick_by (λ (j : ℕ). differing a b j ≡ differing a b k) (differs_at a b k) _ _
      (λ _. refl)
      (λ e. none_before (suc k) n ∙ ap (λ (x : ℕ). differing a b k + x) (pick_no _ _ _ e) ∙ omega arith)
