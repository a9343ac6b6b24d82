-- What a test says of its parts. Assumes nothing.
use Rattle.conduct.specs.Names.{◌≡◌, Bool, true, false, ℕ, ◌<◌, pick, ◌and◌}
use Rattle.conduct.proofs.Names.{refl, sym, ◌∙◌, true≢false, arith, ◌or◌, and_yes}

-- a test that failed for its second part, or for its first
pub rest : (t x : Bool) → t ≡ true → (t and x) ≡ false → x ≡ false
rest t x h e = sym (and_yes t x h) ∙ e

pub front : (t x : Bool) → x ≡ true → (t and x) ≡ false → t ≡ false
unfolding ◌and◌
front true x h e = absurd (true≢false (sym h ∙ e))
front false x h e = refl

pub either_left : (t x : Bool) → (t or x) ≡ false → t ≡ false
unfolding ◌or◌
either_left true x h = h
either_left false x h = refl

pub either_right : (t x : Bool) → (t or x) ≡ false → x ≡ false
unfolding ◌or◌
either_right true x h = absurd (true≢false h)
either_right false x h = h

-- two picks by one test
pub pick-both : {A B : Type 0} (P : A → B → Type 0) (t : Bool) (a a' : A) (b b' : B) → (t ≡ true → P a b) → (t ≡ false → P a' b') → P (pick t a a') (pick t b b')
unfolding pick
pick-both P true a a' b b' h k = h refl
pick-both P false a a' b b' h k = k refl

-- a number below 4 is one of four
pub four : (n : ℕ) → n < 4 → (n ≡ 0 → ⊥) → (n ≡ 1 → ⊥) → (n ≡ 2 → ⊥) → (n ≡ 3 → ⊥) → ⊥
four n l a b c e = omega arith
