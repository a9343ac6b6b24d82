-- A lane each word of which is changed, and what a test of each slot's word comes to. Assumes nothing.
use Rattle.std.proofs.Common.{List, [], ◌∷◌, ℕ, zero, suc, ◌≡◌, ◌<◌, ◌≤◌, Bool, true, false, ◌&&◌, length, arith}
use Rattle.std.specs.List.{fold}
use Rattle.lanes.specs.Names.{map, get_or, ◌and◌}
use Rattle.lanes.proofs.Names.{refl, sym, ap, ◌∙◌}
use Rattle.lanes.specs.Lanes.{all_from}
use native.Mathlib.Numerals.{add-one}

-- a list whose elements are f of another's
pub map_at : (f : ℕ → ℕ) (l out : List ℕ) → length out ≡ length l → ((i : ℕ) → i < length l → get_or out i 0 ≡ f (get_or l i 0)) → out ≡ map f l
map_at f [] [] e h = refl
map_at f [] (y ∷ out) e h = absurd (omega (arith, e))
map_at f (x ∷ l) [] e h = absurd (omega (arith, e))
map_at f (x ∷ l) (y ∷ out) e h =
    let here : y ≡ f x = h 0 (omega arith) in
    let rest : out ≡ map f l = map_at f l out (omega (arith, e)) (λ i b. h (suc i) (omega (arith, b))) in
    cc

-- what a change of each of the first i words leaves
pub record Changing (P : ℕ → ℕ → Type 0) (lane out : List ℕ) (i : ℕ) : Type 0 where
  pub long : length out ≡ 32
  pub done : (j : ℕ) → j < i → P (get_or lane j 0) (get_or out j 0)
  pub left : (j : ℕ) → i ≤ j → get_or out j 0 ≡ get_or lane j 0

-- a test of each word goes on with the list's tail as it went on with the list from its next slot
all_tail : (p : ℕ → Bool) (x : ℕ) (l : List ℕ) (n i : ℕ) → all_from p n (suc i) (x ∷ l) ≡ all_from p n i l
unfolding all_from
all_tail p x l zero i = refl
all_tail p x l (suc n) i = ap (λ (t : Bool). p (get_or l i 0) and t) (ap (λ (k : ℕ). all_from p n k (x ∷ l)) (add-one (suc i)) ∙ all_tail p x l n (suc i) ∙ ap (λ (k : ℕ). all_from p n k l) (sym (add-one i)))

all_more : (p : ℕ → Bool) (ok : Bool) (l : List ℕ) → fold (λ (o : Bool) (w : ℕ). o && p w) ok l ≡ (ok and all_from p (length l) 0 l)
unfolding all_from ◌and◌
all_more p true [] = refl
all_more p false [] = refl
all_more p true (x ∷ l) = all_more p (p x) l ∙ ap (λ (t : Bool). p x and t) (sym (all_tail p x l (length l) 0))
all_more p false (x ∷ l) = all_more p false l

-- each of the slots' words passes a test, as a fold over them
pub all_fold : (p : ℕ → Bool) (l : List ℕ) (n : ℕ) → length l ≡ n → fold (λ (o : Bool) (w : ℕ). o && p w) true l ≡ all_from p n 0 l
unfolding ◌and◌
all_fold p l n e = all_more p true l ∙ ap (λ (k : ℕ). all_from p k 0 l) e
