-- Sums that stay within the largest binary64 value, up to what still rounds to it, are finite. Assumes nothing.
use Rattle.bill.specs.Names.{◌≡◌, Bool, true, false, ℕ, Float, binary64}
use Rattle.bill.proofs.Names.{refl, sym, ap, ◌∙◌, subst, not, ◌&&◌, cond, Bool·beq, zero, suc, ◌+◌, ◌*◌, ◌-◌, ◌<◌, ◌≤◌, ◌^◌, mul-pos, zero-mul}
use Rattle.bill.proofs.Names.{mul-one, mul-le-mul_right, le_trans, le_of_eq, le-mul_of_pos_right, arith, ℤ, pos, negsuc, T, ltb, lit<, lit≤}
use Rattle.bill.proofs.Names.{nan, inf, fin, prec, low, emax, up, down, down_pos, round_is, finite}
use Prim.Native.Nat.{◌%◌}
use native.Mathlib.Nat.{mul_assoc, mul_comm, add-mul, mul-le-mul, le_of_lt, lt_of_mul-lt-mul_right}
use lib.Dec.{leb, eqb, ltb→lt, leb→le, nleb→lt}
use lib.Pow.{pow_pos, pow-add, pow_mono, le_ones}
use lib.Count.{count_trailing_zeros}
use lib.Ieee.{size, span, climb, odd, units, round, sum, add, le, lt, eq, fits}
use lib.Ieee.Fits.{and_l, and_r}
use lib.Ieee.Order.{round_mono}
use Rattle.prices.proofs.Range.{InRange}

-- the largest finite value, and a bound that still rounds to it
pub most : ℕ
most = (2 ^ 53 - 1) * 2 ^ 971

pub bound : ℕ
unfolding most
bound = most + 8192

top_finite : T (finite (round binary64 false bound 1))
unfolding bound most round size span climb units odd count_trailing_zeros
top_finite = tt

-- `round` at a fraction up to the bound
odd_finite : (d : ℕ) (s : Bool) (q k l : ℕ) → finite (odd d s q k l) ≡ true
unfolding odd
odd_finite d s zero k l = refl
odd_finite d s (suc q) k l = refl

units_sign : (s : Bool) (q k : ℕ) → finite (units binary64 s q k) ≡ finite (units binary64 false q k)
unfolding units
units_sign s q k = go (ltb (q * 2 ^ k) (2 ^ (low binary64 + suc (emax binary64))))
  where
    go : (b : Bool) → finite (cond b (odd (suc (prec binary64)) s q k (low binary64)) (inf s)) ≡ finite (cond b (odd (suc (prec binary64)) false q k (low binary64)) (inf false))
    go true = odd_finite (suc (prec binary64)) s q k (low binary64) ∙ sym (odd_finite (suc (prec binary64)) false q k (low binary64))
    go false = refl

round_sign : (s : Bool) (a c : ℕ) → finite (round binary64 s a c) ≡ finite (round binary64 false a c)
round_sign s a c = ap finite (round_is binary64 s a c) ∙ units_sign s _ _ ∙ sym (ap finite (round_is binary64 false a c))

units_below : (q k : ℕ) (y : Float) → T (finite y) → T (le (units binary64 false q k) y) → T (finite (units binary64 false q k))
unfolding units le lt eq
units_below q k y f = go (ltb (q * 2 ^ k) (2 ^ (low binary64 + suc (emax binary64)))) y f
  where
    go : (b : Bool) (y : Float) → T (finite y) → T (le (cond b (odd (suc (prec binary64)) false q k (low binary64)) (inf false)) y)
        → T (finite (cond b (odd (suc (prec binary64)) false q k (low binary64)) (inf false)))
    go true y f l = subst T (sym (odd_finite (suc (prec binary64)) false q k (low binary64))) tt
    go false nan f l = absurd f
    go false (inf t) f l = absurd f
    go false (fin t m e) f l = l

pub round_finite : (s : Bool) (a c : ℕ) → 0 < c → a ≤ bound * c → T (finite (round binary64 s a c))
round_finite s a c p h =
    let l : T (le (round binary64 false a c) (round binary64 false bound 1)) = round_mono binary64 a c bound 1 p (lit< tt) (le_trans (le_of_eq (mul-one a)) h) in
    subst T (sym (round_sign s a c ∙ ap finite (round_is binary64 false a c)))
    (units_below _ _ (round binary64 false bound 1) top_finite (subst (λ (z : Float). T (le z (round binary64 false bound 1))) (round_is binary64 false a c) l))

-- a finite value that fits is at most the largest
high : (m k : ℕ) → m < 2 ^ 53 → m * 2 ^ k < 2 ^ 1024 → m * 2 ^ k ≤ most
unfolding most
high m k h j = go (leb k 971) (leb→le k 971) (nleb→lt k 971)
  where
    go : (b : Bool) → (T b → k ≤ 971) → (T (not b) → 971 < k) → m * 2 ^ k ≤ (2 ^ 53 - 1) * 2 ^ 971
    go true f g = mul-le-mul (le_ones 53 h) (pow_mono (f tt))
    go false f g =
        let d = k - 971 in
        let l : 971 < k = g tt in
        let q : d + 971 ≡ k = omega arith in
        let e : m * 2 ^ k ≡ m * 2 ^ d * 2 ^ 971 = ap (λ (z : ℕ). m * 2 ^ z) (sym q) ∙ ap (λ (z : ℕ). m * z) (pow-add 2 d 971) ∙ sym (mul_assoc m (2 ^ d) (2 ^ 971)) in
        let u : m * 2 ^ d < 2 ^ 53 = lt_of_mul-lt-mul_right (2 ^ 971) (subst (λ (z : ℕ). z < 2 ^ 53 * 2 ^ 971) e j) in
        le_trans (le_of_eq e) (mul-le-mul_right (2 ^ 971) (le_ones 53 u))

room : 2 ^ 53 ≤ most
unfolding most
room = lit≤ tt

pub fits_most : (s : Bool) (m : ℕ) (e : ℤ) → T (fits binary64 (fin s m e)) → m * up e ≤ most * down e
unfolding fits
fits_most s zero e t = le_trans (le_of_eq (zero-mul (up e))) (omega arith)
fits_most s (suc m) (pos k) t =
    let a = eqb (suc m % 2) 1 in
    let b = ltb (suc m) (2 ^ 53) in
    let c = leb 1 (2 ^ 1074) in
    let d = ltb (suc m * 2 ^ k) (2 ^ 1024 * 1) in
    let h : suc m < 2 ^ 53 = ltb→lt (suc m) (2 ^ 53) (and_r a b (and_l (a && b) c (and_l (a && b && c) d t))) in
    let j : suc m * 2 ^ k < 2 ^ 1024 = ltb→lt (suc m * 2 ^ k) (2 ^ 1024 * 1) (and_r (a && b && c) d t) in
    le_trans (high (suc m) k h j) (le_of_eq (sym (mul-one most)))
fits_most s (suc m) (negsuc k) t =
    let a = eqb (suc m % 2) 1 in
    let b = ltb (suc m) (2 ^ 53) in
    let c = leb (2 ^ suc k) (2 ^ 1074) in
    let d = ltb (suc m * 1) (2 ^ 1024 * 2 ^ suc k) in
    let h : suc m < 2 ^ 53 = ltb→lt (suc m) (2 ^ 53) (and_r a b (and_l (a && b) c (and_l (a && b && c) d t))) in
    le_trans (le_of_eq (mul-one (suc m))) (le_trans (le_of_lt h) (le_trans room (le-mul_of_pos_right most (pow_pos (suc k)))))

-- a sum
pub scaled : (m e d k : ℕ) → m ≤ k * e → m * d ≤ k * (e * d)
scaled m e d k h = le_trans (mul-le-mul_right d h) (le_of_eq (mul_assoc k e d))

pub scaled_left : (n d e k : ℕ) → n ≤ k * d → n * e ≤ k * (e * d)
scaled_left n d e k h = le_trans (scaled n d e k h) (le_of_eq (ap (λ (z : ℕ). k * z) (mul_comm d e)))

-- two sizes of at most the largest value and 8,192 are within the bound together
bound_is : bound ≡ most + 8192
unfolding bound
bound_is = refl

together : (a b c k : ℕ) → a ≤ k → b ≤ 8192 * c → a + b ≤ k + 8192 * c
together a b c k h j = omega arith

pub within : (a b c : ℕ) → a ≤ most * c → b ≤ 8192 * c → a + b ≤ bound * c
within a b c h j = rw (bound_is, add-mul) (together a b c (most * c) h j)

pub inside : (a c : ℕ) → a ≤ most * c → a ≤ bound * c
inside a c h = let z : a + 0 ≤ bound * c = within a 0 c h (omega arith) in omega arith

pub sum_finite : (s : Bool) (a : ℕ) (t : Bool) (b c : ℕ) → 0 < c → a ≤ bound * c → b ≤ bound * c → (T (Bool·beq s t) → a + b ≤ bound * c) → T (finite (sum binary64 s a t b c))
unfolding sum
sum_finite s a t b c p ha hb same = go (Bool·beq s t) (ltb a b) same
  where
    go : (u v : Bool) → (T u → a + b ≤ bound * c) → T (finite (cond u (round binary64 s (a + b) c) (cond v (round binary64 t (b - a) c) (round binary64 (s && ltb b a) (a - b) c))))
    go true v h = round_finite s (a + b) c p (h tt)
    go false true h = let l : b - a ≤ b = omega arith in round_finite t (b - a) c p (le_trans l hb)
    go false false h = let l : a - b ≤ a = omega arith in round_finite (s && ltb b a) (a - b) c p (le_trans l ha)

-- a finite total and a figure in range
pub word_finite : (x p : Float) → T (fits binary64 x) → T (finite x) → InRange p → T (finite (add binary64 x p))
unfolding add
word_finite nan p t f r = absurd f
word_finite (inf s) p t f r = absurd f
word_finite (fin s m e) nan t f r = absurd r
word_finite (fin s m e) (inf u) t f r = absurd r
word_finite (fin s m e) (fin u n d) t f r =
    let c = down e * down d in
    let a : m * up e * down d ≤ most * c = scaled (m * up e) (down e) (down d) most (fits_most s m e t) in
    let b : n * up d * down e ≤ 4096 * c = scaled_left (n * up d) (down d) (down e) 4096 r.0 in
    let b' : n * up d * down e ≤ 8192 * c = omega arith in
    let w : m * up e * down d + n * up d * down e ≤ bound * c = within (m * up e * down d) (n * up d * down e) c a b' in
    sum_finite s (m * up e * down d) u (n * up d * down e) c (mul-pos (down_pos e) (down_pos d)) (omega arith) (omega arith) (λ q. w)
