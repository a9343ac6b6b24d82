-- A search that keeps the least slot seen. Assumes nothing.
use Rattle.std.proofs.Common.{Option, Some, None}
use Rattle.bank.specs.Names.{◌≡◌, Bool, List, ℕ, zero, suc, ◌+◌, ◌<◌, min, get_or, pick}
use Rattle.bank.proofs.Names.{refl, sym, ◌∙◌, ap, subst, true, false, ◌⊎◌, inl, inr, ◌-◌, ◌≤◌, arith, pick_yes, pick_no}
use Rattle.bank.proofs.Names.{pick_by, in_span, sought_from, sought}

abbrev IsNothing : Option ℕ → Type 0
IsNothing (Some i) = ⊥
IsNothing None = Unit {0}

abbrev slot_of : Option ℕ → ℕ
slot_of (Some i) = i
slot_of None = 0

module _ (lows highs : List ℕ) (x : ℕ) where
  -- with slots below i seen, the least of them that has x is best, or none has it and best is 32
  abbrev pub Seeking : ℕ → ℕ → Type 0
  Seeking i best =
      (i ≤ 32) ×
      (((best < i) × (sought lows highs x ≡ Some best))
      ⊎ ((best ≡ 32) × (sought lows highs x ≡ sought_from (32 - i) i lows highs x)))

  pub seeking_starts : Seeking 0 32
  seeking_starts = (omega arith, inr (refl, refl))

  next : (i : ℕ) → i < 32 → sought_from (32 - i) i lows highs x ≡ pick (in_span (get_or lows i 0) (get_or highs i 0) x) (Some i) (sought_from (32 - (i + 1)) (i + 1) lows highs x)
  unfolding sought_from
  next i h = let e : 32 - i ≡ suc (32 - (i + 1)) = omega arith in ap (λ (n : ℕ). sought_from n i lows highs x) e

  pub seeking_turns : (i best w r : ℕ) → i < 32 → Seeking i best → w ≡ pick (in_span (get_or lows i 0) (get_or highs i 0) x) i 32 → r ≡ min best w → Seeking (i + 1) r
  seeking_turns i best w r h s p q = (omega arith, by s.1)
    where
      t : Bool
      t = in_span (get_or lows i 0) (get_or highs i 0) x

      w_least : i ≤ w
      w_least = subst (λ (y : ℕ). i ≤ y) (sym p) (pick_by (λ (y : ℕ). i ≤ y) t _ _ (λ _. omega arith) (λ _. omega arith))

      none : (u : Bool) → t ≡ u → best ≡ 32 → sought lows highs x ≡ sought_from (32 - i) i lows highs x
          → ((r < i + 1) × (sought lows highs x ≡ Some r)) ⊎ ((r ≡ 32) × (sought lows highs x ≡ sought_from (32 - (i + 1)) (i + 1) lows highs x))
      none true f b g =
          let v : w ≡ i = p ∙ pick_yes _ _ _ f in
          let k : r ≡ i = omega (arith, v, b, q) in
          inl (omega arith, g ∙ next i h ∙ pick_yes _ _ _ f ∙ ap Some (sym k))
      none false f b g =
          let v : w ≡ 32 = p ∙ pick_no _ _ _ f in
          let k : r ≡ 32 = omega (arith, v, b, q) in
          inr (k, g ∙ next i h ∙ pick_no _ _ _ f)

      by : ((best < i) × (sought lows highs x ≡ Some best)) ⊎ ((best ≡ 32) × (sought lows highs x ≡ sought_from (32 - i) i lows highs x))
          → ((r < i + 1) × (sought lows highs x ≡ Some r)) ⊎ ((r ≡ 32) × (sought lows highs x ≡ sought_from (32 - (i + 1)) (i + 1) lows highs x))
      by (inl g) = let k : r ≡ best = omega (arith, q, g.0, w_least) in inl (omega (arith, g.0), g.1 ∙ ap Some (sym k))
      by (inr g) = none t refl g.0 g.1

  pub seeking_finds : (i best : ℕ) → 32 ≤ i → Seeking i best → best < 32 → Some best ≡ sought lows highs x
  seeking_finds i best h s b = by s.1
    where
      by : ((best < i) × (sought lows highs x ≡ Some best)) ⊎ ((best ≡ 32) × (sought lows highs x ≡ sought_from (32 - i) i lows highs x)) → Some best ≡ sought lows highs x
      by (inl g) = sym g.1
      by (inr g) = absurd (omega (arith, g.0))

  pub seeking_misses : (i best : ℕ) → 32 ≤ i → Seeking i best → 32 ≤ best → None ≡ sought lows highs x
  unfolding sought_from
  seeking_misses i best h s b = by s.1
    where
      by : ((best < i) × (sought lows highs x ≡ Some best)) ⊎ ((best ≡ 32) × (sought lows highs x ≡ sought_from (32 - i) i lows highs x)) → None ≡ sought lows highs x
      by (inl g) = absurd (omega (arith, g.0, s.0))
      by (inr g) = let e : 32 - i ≡ 0 = omega arith in sym (g.1 ∙ ap (λ (n : ℕ). sought_from n i lows highs x) e)

  found_before : (n i j : ℕ) → sought_from n i lows highs x ≡ Some j → j < i + n
  unfolding sought_from
  found_before zero i j e = absurd (subst IsNothing e tt)
  found_before (suc n) i j e =
      pick_by (λ (m : Option ℕ). m ≡ Some j → j < i + suc n) _ _ _
      (λ _ q. let k : i ≡ j = ap slot_of q in omega (arith, k))
      (λ _ q. let k = found_before n (i + 1) j q in omega (arith, k))
      e

  pub sought-lt : (j : ℕ) → sought lows highs x ≡ Some j → j < 32
  sought-lt j e = found_before 32 0 j e
