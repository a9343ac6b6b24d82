-- Only zeros. Assumes nothing.
use Rattle.recording.specs.Names.{◌≡◌, List, [], ◌∷◌, true, false, ℕ, zero, suc, ◌+◌, ◌<◌, ◌≤◌, length, get_or, drop, replicate}
use Rattle.recording.proofs.Names.{refl, sym, ◌∙◌, ap, ap₂, add-one, and_yes, and_no, and_left, and_right, eq-eqb, ne_eqb, eqb-true, all_zero}
use Rattle.page.proofs.Picks.{and_is}
use Rattle.page.specs.Pick.{◌and◌}
use Rattle.std.specs.List.{list_all}
use Rattle.std.specs.Prelude.{◌==◌}
use Rattle.page.specs.Ground.{eqb}

-- as a test of each
pub zero_listed : (s : List ℕ) → list_all (λ x. x == 0) s ≡ all_zero s
unfolding all_zero
zero_listed [] = refl
zero_listed (x ∷ s) = and_is (x == 0) (list_all (λ y. y == 0) s) ∙ ap (λ t. eqb x 0 and t) (zero_listed s)

-- zeros are so many zeros
pub zeros_are : (s : List ℕ) → all_zero s ≡ true → s ≡ replicate (length s) 0
unfolding all_zero
zeros_are [] h = refl
zeros_are (x ∷ s) h = ap₂ (λ (y : ℕ) (l : List ℕ). y ∷ l) (eqb-true x 0 (and_left _ _ h)) (zeros_are s (and_right _ _ h))

pub zeros_pass : (n : ℕ) → all_zero (replicate n 0) ≡ true
unfolding all_zero
zeros_pass zero = refl
zeros_pass (suc n) = and_yes _ _ (eq-eqb 0 0 refl) ∙ zeros_pass n
