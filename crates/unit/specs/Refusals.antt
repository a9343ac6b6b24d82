-- The refusals of a call are one list of conditions and what each answers, in the paper's order: the first that holds is answered
-- (01, "When the unit says no"). A call of the unit answers a number alone, the builder its number with an index or a count.
use Rattle.std.specs.Prelude.{◌≡◌, ◌∷◌, ◌⊎◌}
use Rattle.unit.specs.Names.{ℕ, Bool, true, false, List, [], pick}

abbrev pub Refusing : Type 0 → Type 0
Refusing K = List (Bool × K)

abbrev pub Refusals : Type 0
Refusals = Refusing ℕ

-- the call is refused as the first condition that holds says, else it goes on
unfoldable pub refuses : {K A : Type 0} → Refusing K → (K → A) → A → A
refuses [] say else = else
refuses (r ∷ rs) say else = pick r.0 (say r.1) (refuses rs say else)

-- the condition of refusal k holds and none before it does
abbrev pub First : {K : Type 0} → Refusing K → K → Type 0
First [] k = ⊥
First (r ∷ rs) k = ((r.0 ≡ true) × (r.1 ≡ k)) ⊎ ((r.0 ≡ false) × First rs k)

-- no condition holds
abbrev pub Clear : {K : Type 0} → Refusing K → Type 0
Clear [] = Unit {0}
Clear (r ∷ rs) = (r.0 ≡ false) × Clear rs
