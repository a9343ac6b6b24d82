-- The laws of a choice and of the two tests. Assumes nothing.
use mathlib.Core.Path.{◌≡◌, refl, sym, ◌∙◌}
use mathlib.Core.Bool.{Bool, true, false, ◌&&◌, true≢false, false≢true}
use Prim.Native.Nat.{ℕ, ◌%◌}
use native.Mathlib.Omega.{arith}
use lib.Dec.{eqb}
use borrow.Author.Tests.{eq-eqb, ne_eqb, le-leb, lt-leb, lt-ltb, le-ltb}
use Rattle.page.specs.Pick.{pick, ◌and◌, ◌or◌}

pub pick_yes : {A : Type 0} (t : Bool) (a b : A) → t ≡ true → pick t a b ≡ a
unfolding pick
pick_yes true a b h = refl
pick_yes false a b h = absurd (false≢true h)

pub pick_no : {A : Type 0} (t : Bool) (a b : A) → t ≡ false → pick t a b ≡ b
unfolding pick
pick_no false a b h = refl
pick_no true a b h = absurd (true≢false h)

-- what holds of both, each under its test, holds of the pick
pub pick_by : {A : Type 0} (P : A → Type 0) (t : Bool) (a b : A) → (t ≡ true → P a) → (t ≡ false → P b) → P (pick t a b)
unfolding pick
pick_by P true a b h k = h refl
pick_by P false a b h k = k refl

-- a choice of four by a number's two lowest bits
module _ {A : Type 0} (a b c d : A) (w : ℕ) where
  abbrev chosen : A
  chosen = pick (eqb (w % 4) 0) a (pick (eqb (w % 4) 1) b (pick (eqb (w % 4) 2) c d))

  pub bits_01 : w % 4 ≡ 1 → b ≡ chosen
  bits_01 e = sym (pick_no _ _ _ (ne_eqb (w % 4) 0 (λ q. omega (arith, q, e))) ∙ pick_yes _ _ _ (eq-eqb _ _ e))

  pub bits_10 : w % 4 ≡ 2 → c ≡ chosen
  bits_10 e =
      sym (pick_no _ _ _ (ne_eqb (w % 4) 0 (λ q. omega (arith, q, e)))
      ∙ pick_no _ _ _ (ne_eqb (w % 4) 1 (λ q. omega (arith, q, e)))
      ∙ pick_yes _ _ _ (eq-eqb _ _ e))

  pub bits_11 : (w % 4 ≡ 0 → ⊥) → (w % 4 ≡ 1 → ⊥) → (w % 4 ≡ 2 → ⊥) → d ≡ chosen
  bits_11 x y z = sym (pick_no _ _ _ (ne_eqb _ _ x) ∙ pick_no _ _ _ (ne_eqb _ _ y) ∙ pick_no _ _ _ (ne_eqb _ _ z))

pub and_yes : (t x : Bool) → t ≡ true → (t and x) ≡ x
unfolding ◌and◌
and_yes true x h = refl
and_yes false x h = absurd (false≢true h)

pub and_no : (t x : Bool) → t ≡ false → (t and x) ≡ false
unfolding ◌and◌
and_no false x h = refl
and_no true x h = absurd (true≢false h)

pub and-rest : (t x : Bool) → x ≡ false → (t and x) ≡ false
unfolding ◌and◌
and-rest true x h = h
and-rest false x h = refl

pub and_left : (t x : Bool) → (t and x) ≡ true → t ≡ true
unfolding ◌and◌
and_left true x h = refl
and_left false x h = h

pub and_right : (t x : Bool) → (t and x) ≡ true → x ≡ true
unfolding ◌and◌
and_right true x h = h
and_right false x h = absurd (false≢true h)

pub or_yes : (t x : Bool) → t ≡ true → (t or x) ≡ true
unfolding ◌or◌
or_yes true x h = refl
or_yes false x h = absurd (false≢true h)

pub or_no : (t x : Bool) → t ≡ false → (t or x) ≡ x
unfolding ◌or◌
or_no false x h = refl
or_no true x h = absurd (true≢false h)

-- the machine's tests of two and of four are those of the definitions
pub and_is : (p q : Bool) → (p && q) ≡ (p and q)
unfolding ◌and◌
and_is false q = refl
and_is true q = refl

pub all_four : (p q r s : Bool) → (((p && q) && r) && s) ≡ (p and q and r and s)
unfolding ◌and◌
all_four false q r s = refl
all_four true false r s = refl
all_four true true false s = refl
all_four true true true s = refl

-- what a test of the code says of a definition that picks by it
pub ruleset tests = (pick_yes, pick_no, and_yes, and_no, or_yes, or_no, eq-eqb, ne_eqb, le-leb, lt-leb, lt-ltb, le-ltb)
