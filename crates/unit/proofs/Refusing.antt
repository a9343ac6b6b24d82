-- A list of refusals: the first condition that holds is answered, one that does not hold is passed. Assumes nothing.
use Rattle.unit.specs.Names.{◌≡◌, Bool, true, false, [], ◌∷◌, ℕ, pick}
use Rattle.unit.proofs.Names.{refl, ◌∙◌, ap, pick_yes, pick_no, pick_by, Refusing, Refusals, refuses}
use Rattle.unit.specs.Refusals.{Clear}

pick-map : {A B : Type 0} (f : A → B) (t : Bool) (x y : A) → f (pick t x y) ≡ pick t (f x) (f y)
unfolding pick
pick-map f true x y = refl
pick-map f false x y = refl

-- a list of refusals, seen through what is made of the call
pub refuses-map : {K A B : Type 0} (f : A → B) (rs : Refusing K) (say : K → A) (y : A) → f (refuses rs say y) ≡ refuses rs (λ k. f (say k)) (f y)
unfolding refuses
refuses-map f [] say y = refl
refuses-map f (r ∷ rs) say y = pick-map f r.0 (say r.1) (refuses rs say y) ∙ ap (pick r.0 (f (say r.1))) (refuses-map f rs say y)

module _ {A : Type 0} (t : Bool) (k : ℕ) (rs : Refusals) (say : ℕ → A) (else : A) where
  pub refused_here : t ≡ true → refuses ((t, k) ∷ rs) say else ≡ say k
  unfolding refuses
  refused_here h = pick_yes _ _ _ h

  pub passed : t ≡ false → refuses ((t, k) ∷ rs) say else ≡ refuses rs say else
  unfolding refuses
  passed h = pick_no _ _ _ h

module _ {A : Type 0} (say : ℕ → A) (else : A) where
  -- a last condition changes nothing where the call says its number of itself
  pub last_same : (t : Bool) (k : ℕ) (x : A) → x ≡ else → (t ≡ true → else ≡ say k) → x ≡ refuses ((t, k) ∷ []) say else
  unfolding refuses
  last_same t k x e h = pick_by (λ y. x ≡ y) t (say k) else (λ q. e ∙ h q) (λ _. e)

module _ {K A : Type 0} (say : K → A) (else : A) where
  -- where no condition holds the call goes on
  pub clear_goes_on : (rs : Refusing K) → Clear rs → refuses rs say else ≡ else
  unfolding refuses
  clear_goes_on [] c = refl
  clear_goes_on (r ∷ rs) c = pick_no _ _ _ c.0 ∙ clear_goes_on rs c.1

  -- what holds of each refusal, and of what follows where none comes, holds of the call
  pub refuses_by : (P : A → Type 0) (rs : Refusing K) → ((k : K) → P (say k)) → (Clear rs → P else) → P (refuses rs say else)
  unfolding refuses
  refuses_by P [] f g = g tt
  refuses_by P (r ∷ rs) f g = pick_by P _ _ _ (λ _. f r.1) (λ e. refuses_by P rs f (λ c. g (e, c)))
