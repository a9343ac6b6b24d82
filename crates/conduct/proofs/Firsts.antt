-- A call with a list of refusals is refused by the first whose condition holds, and goes on where none does. Assumes
-- nothing.
use Rattle.conduct.specs.Names.{◌≡◌, Bool, true, false, [], ◌∷◌, ℕ, Refusals, First, Clear, Said}
use Rattle.conduct.proofs.Names.{refl, sym, ◌∙◌, ap, subst, true≢false, pick_yes, pick_no, clear_goes_on, refuses_by, refuses, said_refused}
use mathlib.Core.Logic.{◌⊎◌, inl, inr}
use Rattle.unit.specs.Refusals.{Refusing}

-- either some condition holds first, or none holds
pub first-or_clear : {K : Type 0} (rs : Refusing K) → ((k : K) × First rs k) ⊎ Clear rs
first-or_clear [] = inr tt
first-or_clear {K} (r ∷ rs) = by r.0 refl (first-or_clear rs)
  where
    later : r.0 ≡ false → ((k : K) × First rs k) ⊎ Clear rs → ((k : K) × First (r ∷ rs) k) ⊎ Clear (r ∷ rs)
    later e (inl f) = inl (f.0, inr (e, f.1))
    later e (inr c) = inr (e, c)

    by : (t : Bool) → r.0 ≡ t → ((k : K) × First rs k) ⊎ Clear rs → ((k : K) × First (r ∷ rs) k) ⊎ Clear (r ∷ rs)
    by true e f = inl (r.1, inl (e, refl))
    by false e f = later e f

-- no two refusals come first
pub one-first : {K : Type 0} (rs : Refusing K) (j k : K) → First rs j → First rs k → j ≡ k
one-first [] j k x _ = elim x [ ]
one-first (r ∷ rs) j k (inl f) (inl g) = sym f.1 ∙ g.1
one-first (r ∷ rs) j k (inl f) (inr g) = absurd (true≢false (sym f.0 ∙ g.0))
one-first (r ∷ rs) j k (inr f) (inl g) = absurd (true≢false (sym g.0 ∙ f.0))
one-first (r ∷ rs) j k (inr f) (inr g) = one-first rs j k f.1 g.1

module _ {K A : Type 0} (say : K → A) (else : A) where
  pub first-refuses : (rs : Refusing K) (k : K) → First rs k → refuses rs say else ≡ say k
  unfolding refuses
  first-refuses [] k x = elim x [ ]
  first-refuses (r ∷ rs) k (inl f) = pick_yes _ _ _ f.0 ∙ ap say f.1
  first-refuses (r ∷ rs) k (inr f) = pick_no _ _ _ f.0 ∙ first-refuses rs k f.1

module _ {A : Type 0} (say : ℕ → A) (else : A) where
  -- what holds where no condition does holds of a call that is not refused
  pub accepted_by : (P : A → Type 0) (said : A → Said) (rs : Refusals) → ((k : ℕ) → said_refused (said (say k)) ≡ true) → (Clear rs → P else)
      → said_refused (said (refuses rs say else)) ≡ false → P (refuses rs say else)
  accepted_by P said rs f g = refuses_by say else (λ (x : A). said_refused (said x) ≡ false → P x) rs (λ k h. absurd (true≢false (sym (f k) ∙ h))) (λ c _. g c)

-- one law for every list of refusals: where a refusal is told by what it says, and what follows is none, it is
-- answered exactly where its condition holds first
module _ {K A : Type 0} (say : K → A) (else : A) (rs : Refusing K) (no : A → Bool) (key : A → K) (goes_on : Clear rs → no else ≡ false) where
  pub refused-first : no (refuses rs say else) ≡ true → (k : K) × First rs k
  refused-first h = by (first-or_clear rs)
    where
      by : ((k : K) × First rs k) ⊎ Clear rs → (k : K) × First rs k
      by (inl f) = f
      by (inr c) = absurd (true≢false (sym h ∙ ap no (clear_goes_on say else rs c) ∙ goes_on c))

  -- so it is one of the refusals, and changes what they change
  pub refused_by : (P : A → Type 0) → ((k : K) → P (say k)) → no (refuses rs say else) ≡ true → P (refuses rs say else)
  refused_by P f h =
      let g = refused-first h in
      subst P (sym (first-refuses say else rs g.0 g.1)) (f g.0)

  module _ (says : (k : K) → First rs k → (no (say k) ≡ true) × (key (say k) ≡ k)) where
    pub exactly-first : (k : K)
        → ((no (refuses rs say else) ≡ true) × (key (refuses rs say else) ≡ k) → First rs k) × (First rs k → (no (refuses rs say else) ≡ true) × (key (refuses rs say else) ≡ k))
    exactly-first k = (only, λ f. there k f)
      where
        there : (j : K) → First rs j → (no (refuses rs say else) ≡ true) × (key (refuses rs say else) ≡ j)
        there j f = subst (λ (x : A). (no x ≡ true) × (key x ≡ j)) (sym (first-refuses say else rs j f)) (says j f)

        only : (no (refuses rs say else) ≡ true) × (key (refuses rs say else) ≡ k) → First rs k
        only h =
            let f = refused-first h.0 in
            subst (First rs) (sym (there f.0 f.1).1 ∙ h.1) f.1

    pub accepted_clear : (no (refuses rs say else) ≡ false → Clear rs) × (Clear rs → no (refuses rs say else) ≡ false)
    accepted_clear = (λ h. by h (first-or_clear rs), λ c. ap no (clear_goes_on say else rs c) ∙ goes_on c)
      where
        by : no (refuses rs say else) ≡ false → ((k : K) × First rs k) ⊎ Clear rs → Clear rs
        by h (inl f) = absurd (true≢false (sym ((exactly-first f.0).1 f.1).0 ∙ h))
        by h (inr c) = c
