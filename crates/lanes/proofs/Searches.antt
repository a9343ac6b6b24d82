-- What a search of the slots finds: the lowest that matches, and nothing only where none does. Assumes nothing.
use Rattle.std.proofs.Common.{Option, Some, None}
use Rattle.lanes.specs.Names.{◌≡◌, Bool, true, List, ℕ, zero, suc, ◌+◌, eqb, get_or}
use Rattle.lanes.proofs.Names.{refl, sym, ◌∙◌, ap, false, ◌<◌, ◌≤◌, arith, word_matches, VirtualAddress, pick_yes, pick_no, pick_by, slots}
use mathlib.Core.Path.{subst}
use borrow.Author.Tests.{eqb-true, eqb-false}
use Rattle.lanes.specs.Lanes.{looked_from, looked_up}

-- a property of every slot from i, seen at slot i and at those after it
pub from_next : (P : ℕ → Type 0) (n i j : ℕ) → P i → (i + 1 ≤ j → j < i + 1 + n → P j) → i ≤ j → j < i + suc n → P j
from_next P n i j here later a b = at (eqb j i) refl
  where
    past : eqb j i ≡ false → i + 1 ≤ j
    past e = omega (arith, eqb-false j i e)

    at : (t : Bool) → eqb j i ≡ t → P j
    at true e = subst P (sym (eqb-true j i e)) here
    at false e = later (past e) (omega arith)

module _ (cam : List ℕ) (va : VirtualAddress) where
  abbrev Hit : ℕ → Bool → Type 0
  Hit j t = word_matches (get_or cam j 0) va ≡ t

  -- of n slots from i: the one found matches, and none of them below it does
  abbrev pub Lowest : ℕ → ℕ → Option ℕ → Type 0
  Lowest n i (Some k) = (k < i + n) × (Hit k true × ((j : ℕ) → i ≤ j → j < k → Hit j false))
  Lowest n i None = (j : ℕ) → i ≤ j → j < i + n → Hit j false

  widen : (n i : ℕ) (m : Option ℕ) → Hit i false → Lowest n (i + 1) m → Lowest (suc n) i m
  widen n i (Some k) e h =
      (omega (arith, h.0), (h.1.0, λ j a b. below j a b))
    where
      below : (j : ℕ) → i ≤ j → j < k → Hit j false
      below j a b = from_next (λ (x : ℕ). x < k → Hit x false) k i j (λ _. e) (λ c d l. h.1.1 j c l) a (omega arith) b
  widen n i None e h = λ j a b. from_next (λ (x : ℕ). Hit x false) n i j e (h j) a b

  lowest-from : (n i : ℕ) → Lowest n i (looked_from n i cam va)
  unfolding looked_from
  lowest-from zero i = λ j a b. absurd (omega arith)
  lowest-from (suc n) i =
      pick_by (Lowest (suc n) i) _ _ _
      (λ e. (omega arith, (e, λ j a b. absurd (omega arith))))
      (λ e. widen n i (looked_from n (i + 1) cam va) e (lowest-from n (i + 1)))

  pub lowest : Lowest slots 0 (looked_up cam va)
  lowest = lowest-from slots 0

  -- a slot that matches below every other match is the one found
  found_from : (n i k : ℕ) → i ≤ k → k < i + n → Hit k true → ((j : ℕ) → i ≤ j → j < k → Hit j false) → looked_from n i cam va ≡ Some k
  unfolding looked_from
  found_from zero i k a b h l = absurd (omega arith)
  found_from (suc n) i k a b h l = at (eqb k i) refl (λ c. found_from n (i + 1) k c (omega arith) h (λ j d e. l j (omega arith) e))
    where
      past : eqb k i ≡ false → i + 1 ≤ k
      past e = omega (arith, eqb-false k i e)

      at : (t : Bool) → eqb k i ≡ t → (i + 1 ≤ k → looked_from n (i + 1) cam va ≡ Some k) → looked_from (suc n) i cam va ≡ Some k
      at true e g = pick_yes _ _ _ (subst (λ (x : ℕ). Hit x true) (eqb-true k i e) h) ∙ ap Some (sym (eqb-true k i e))
      at false e g = pick_no _ _ _ (l i (omega arith) (omega (arith, past e))) ∙ g (past e)

  pub found : (k : ℕ) → k < slots → Hit k true → ((j : ℕ) → j < k → Hit j false) → looked_up cam va ≡ Some k
  found k b h l = found_from slots 0 k (omega arith) (omega arith) h (λ j a c. l j c)

  pub found_lt : (k : ℕ) → looked_up cam va ≡ Some k → k < slots
  found_lt k e = (subst (Lowest slots 0) e lowest).0
