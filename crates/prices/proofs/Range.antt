-- What `figure_ok` says of a figure. Assumes nothing.
use Rattle.prices.specs.Names.{◌≡◌, Bool, ℕ, eqb, Float, binary64, ◌and◌}
use Rattle.prices.proofs.Names.{refl, sym, ap, ◌∙◌, true, false, ◌&&◌, pos, fin, and_left, and_right, figure_ok, f0, f4096}
use mathlib.Core.Path.{subst}
use mathlib.Core.Bool.{◌||◌, false≢true}
use Prim.Native.Nat.{◌*◌, ◌<◌, ◌≤◌}
use native.Mathlib.Nat.{zero-mul, mul-one}
use native.Mathlib.Omega.{arith}
use lib.Count.{count_trailing_zeros}
use lib.Dec.{T, ltb, ltb→lt, eqb→eq}
use lib.Ieee.{nan, inf, up, down, level, lt, eq, le, of_bits, of_fields, odd}
use lib.Ieee.Fits.{and_l}
use Rattle.prices.proofs.Values.{zero_is, top_is}

-- finite, at most 4,096 in size, and not below zero
abbrev pub InRange : Float → Type 0
InRange nan = ⊥
InRange (inf s) = ⊥
InRange (fin s m e) = (m * up e ≤ 4096 * down e) × (s ≡ true → m * up e ≡ 0)

-- the two comparisons at a finite value of the size n / d
at_zero : (n d : ℕ) → T (level false (0 * 1 * d) true (n * 1)) → n ≡ 0
at_zero n d t =
    let e : 0 * 1 * d ≡ n * 1 = eqb→eq (0 * 1 * d) (n * 1) (and_l (eqb (0 * 1 * d) (n * 1)) (eqb (0 * 1 * d) 0) t) in
    sym (mul-one n) ∙ sym e ∙ zero-mul d

at_most : (n d : ℕ) → T (ltb (n * 1) (1 * 4096 * d) || level false (n * 1) false (1 * 4096 * d)) → n ≤ 4096 * d
at_most n d t = go (ltb (n * 1) (1 * 4096 * d)) (eqb (n * 1) (1 * 4096 * d)) (ltb→lt (n * 1) (1 * 4096 * d)) (eqb→eq (n * 1) (1 * 4096 * d)) t
  where
    go : (p q : Bool) → (T p → n * 1 < 1 * 4096 * d) → (T q → n * 1 ≡ 1 * 4096 * d) → T (p || (q && true)) → n ≤ 4096 * d
    go true q f g u = let l = f tt in omega arith
    go false true f g u = let l = g tt in omega arith
    go false false f g u = absurd u

pub in_range_lem : (x : Float) → figure_ok x ≡ true → InRange x
unfolding figure_ok le lt eq
in_range_lem x h =
    go x
    (subst T (sym (ap (λ (z : Float). le z x) (sym zero_is) ∙ and_left _ _ h)) tt)
    (subst T (sym (ap (λ (z : Float). le x z) (sym top_is) ∙ and_right _ _ h)) tt)
  where
    go : (x : Float) → T (le (fin false 0 (pos 0)) x) → T (le x (fin false 1 (pos 12))) → InRange x
    go nan a b = a
    go (inf true) a b = a
    go (inf false) a b = b
    go (fin true m e) a b =
        let z : m * up e ≡ 0 = at_zero (m * up e) (down e) a in
        (rw z (omega arith), λ q. z)
    go (fin false m e) a b = (at_most (m * up e) (down e) b, λ q. absurd (false≢true q))

-- the ends and minus zero are in range; the next above, an infinity and NaN are not
ends : (figure_ok (of_bits binary64 0x8000_0000_0000_0000) ≡ true) × ((figure_ok f0 ≡ true) × (figure_ok f4096 ≡ true))
unfolding figure_ok ◌and◌ le lt eq of_bits of_fields odd count_trailing_zeros
ends = (refl, (refl, refl))

past : (figure_ok (of_bits binary64 0x40b0_0000_0000_0001) ≡ false) × ((figure_ok (inf false) ≡ false) × (figure_ok nan ≡ false))
unfolding figure_ok ◌and◌ le lt eq of_bits of_fields odd count_trailing_zeros
past = (refl, (refl, refl))
