-- A finite miss figure stays finite. Assumes nothing.
use Rattle.bill.specs.Names.{◌≡◌, Bool, true, false, ℕ, Float, binary64, f0}
use Rattle.bill.proofs.Names.{refl, sym, ap, ◌∙◌, subst, not, ◌&&◌, cond, Bool·beq, zero, suc, ◌+◌, ◌*◌, ◌-◌, ◌≤◌, ◌^◌, mul-pos, mul-one}
use Rattle.bill.proofs.Names.{mul-le-mul_right, le_trans, le_of_eq, le-mul_of_pos_right, arith, ℤ, pos, negsuc, T, ltb, lit<, lit≤, nan, inf}
use Rattle.bill.proofs.Names.{fin, prec, low, emax, up, down, down_pos, round_is, add-fits, finite, zero_is, f⅛, smoothed}
use native.Mathlib.Nat.{one-mul, mul-le-mul_left}
use lib.Dec.{nltb→le}
use lib.Count.{count_trailing_zeros}
use lib.Ieee.{odd, units, round, sum, add, sub, mul, neg, fits, unlike, size, span, climb, of_bits, of_fields}
use lib.Ieee.Fits.{sub-fits, mul-fits}
use lib.Ieee.Positive.{num, den}
use Rattle.bill.specs.Figures.{miss_figure}
use Rattle.bill.proofs.Values.{one-is, eighth_is}
use Rattle.bill.proofs.Largest.{most, bound, within, inside, scaled, scaled_left, fits_most, round_finite, sum_finite}

-- a sign, and that `round` gives the sign that it is handed
abbrev sign_of : Float → Bool
sign_of nan = false
sign_of (inf s) = s
sign_of (fin s m e) = s

odd_signed : (d : ℕ) (s : Bool) (q k l : ℕ) → sign_of (odd d s q k l) ≡ s
unfolding odd
odd_signed d s zero k l = refl
odd_signed d s (suc q) k l = refl

units_signed : (s : Bool) (q k : ℕ) → sign_of (units binary64 s q k) ≡ s
unfolding units
units_signed s q k = go (ltb (q * 2 ^ k) (2 ^ (low binary64 + suc (emax binary64))))
  where
    go : (b : Bool) → sign_of (cond b (odd (suc (prec binary64)) s q k (low binary64)) (inf s)) ≡ s
    go true = odd_signed (suc (prec binary64)) s q k (low binary64)
    go false = refl

round_signed : (s : Bool) (a c : ℕ) → sign_of (round binary64 s a c) ≡ s
round_signed s a c = ap sign_of (round_is binary64 s a c) ∙ units_signed s _ _

-- i - x, for an i of 0 or 1: it is finite, and where it has x's sign, x is at most 1
gap : ℕ → Float → Float
gap i x = sub binary64 (fin false i (pos 0)) x

gap_finite : (i : ℕ) → i ≤ 1 → (x : Float) → T (fits binary64 x) → T (finite x) → T (finite (gap i x))
unfolding gap sub add neg
gap_finite i l nan t f = absurd f
gap_finite i l (inf s) t f = absurd f
gap_finite i l (fin s m e) t f =
    let c = 1 * down e in
    let a : i * 1 * down e ≤ 8192 * c = le_trans (mul-le-mul_right (down e) (le_trans (le_of_eq (mul-one i)) l)) (omega arith) in
    let b : m * up e * 1 ≤ most * c = le_trans (le_of_eq (mul-one (m * up e))) (le_trans (fits_most s m e t) (le_of_eq (ap (λ (z : ℕ). most * z) (sym (one-mul (down e)))))) in
    let w : m * up e * 1 + i * 1 * down e ≤ bound * c = within (m * up e * 1) (i * 1 * down e) c b a in
    sum_finite false (i * 1 * down e) (not s) (m * up e * 1) c (mul-pos (lit< tt) (down_pos e)) (omega arith) (omega arith) (λ q. omega arith)

gap_sign : (i : ℕ) → i ≤ 1 → (s : Bool) (m : ℕ) (e : ℤ) → T (Bool·beq s (sign_of (gap i (fin s m e)))) → m * up e ≤ down e
unfolding gap sub add neg sum
gap_sign i l true m e q = absurd (subst (λ (z : Bool). T (Bool·beq true z)) (round_signed false (i * 1 * down e + m * up e * 1) (1 * down e)) q)
gap_sign i l false m e q = go (ltb (i * 1 * down e) (m * up e * 1)) (nltb→le (i * 1 * down e) (m * up e * 1)) q
  where
    A : ℕ
    A = i * 1 * down e

    B : ℕ
    B = m * up e * 1

    go : (b : Bool) → (T (not b) → B ≤ A) → T (Bool·beq false (sign_of (cond b (round binary64 true (B - A) (1 * down e)) (round binary64 (false && ltb B A) (A - B) (1 * down e))))) → m * up e ≤ down e
    go true h u = absurd (subst (λ (z : Bool). T (Bool·beq false z)) (round_signed true (B - A) (1 * down e)) u)
    go false h u =
        let k : B ≤ A = h tt in
        let j : A ≤ 1 * down e = mul-le-mul_right (down e) (le_trans (le_of_eq (mul-one i)) l) in
        le_trans (le_of_eq (sym (mul-one (m * up e)))) (le_trans k (le_trans j (le_of_eq (one-mul (down e)))))

-- an eighth of a finite value: finite, with its sign
eighth : Float → Float
eighth x = mul binary64 x (fin false 1 (negsuc 2))

eighth_finite : (x : Float) → T (fits binary64 x) → T (finite x) → T (finite (eighth x))
unfolding eighth mul
eighth_finite nan t f = absurd f
eighth_finite (inf s) t f = absurd f
eighth_finite (fin s m e) t f =
    let c = down e * 8 in
    let h : m * up e * 1 ≤ most * c = le_trans (le_of_eq (mul-one (m * up e))) (le_trans (fits_most s m e t) (mul-le-mul_left most (le-mul_of_pos_right (down e) (lit< tt)))) in
    round_finite (unlike s false) (m * up e * (1 * 1)) c (mul-pos (down_pos e) (lit< tt)) (inside (m * up e * 1) c h)

eighth_sign : (x : Float) → T (finite x) → sign_of (eighth x) ≡ sign_of x
unfolding eighth mul
eighth_sign nan f = absurd f
eighth_sign (inf s) f = absurd f
eighth_sign (fin true m e) f = round_signed true (m * up e * (1 * 1)) (down e * 8)
eighth_sign (fin false m e) f = round_signed false (m * up e * (1 * 1)) (down e * 8)

-- two finite values, of which the first is at most 1 where they have one sign
pair_finite : (x y : Float) → T (fits binary64 x) → T (finite x) → T (fits binary64 y) → T (finite y) → (T (Bool·beq (sign_of x) (sign_of y)) → num x ≤ den x) → T (finite (add binary64 x y))
unfolding add
pair_finite nan y t f u g h = absurd f
pair_finite (inf s) y t f u g h = absurd f
pair_finite (fin s m e) nan t f u g h = absurd g
pair_finite (fin s m e) (inf r) t f u g h = absurd g
pair_finite (fin s m e) (fin r n d) t f u g h =
    let c = down e * down d in
    let a : m * up e * down d ≤ most * c = scaled (m * up e) (down e) (down d) most (fits_most s m e t) in
    let b : n * up d * down e ≤ most * c = scaled_left (n * up d) (down d) (down e) most (fits_most r n d u) in
    sum_finite s (m * up e * down d) r (n * up d * down e) c (mul-pos (down_pos e) (down_pos d)) (inside (m * up e * down d) c a) (inside (n * up d * down e) c b)
    (λ q.
    let k : m * up e * down d ≤ c = mul-le-mul_right (down d) (h q) in
    let k' : m * up e * down d ≤ 8192 * c = omega (arith, k) in
    let w : n * up d * down e + m * up e * down d ≤ bound * c = within (n * up d * down e) (m * up e * down d) c b k' in
    omega (arith, w))

gap_fits : (i : ℕ) (x : Float) → T (fits binary64 (gap i x))
unfolding gap
gap_fits i x = sub-fits binary64 (fin false i (pos 0)) x

eighth_fits : (x : Float) → T (fits binary64 (eighth x))
unfolding eighth
eighth_fits x = mul-fits binary64 x (fin false 1 (negsuc 2))

smooth_finite : (i : ℕ) → i ≤ 1 → (x : Float) → T (fits binary64 x) → T (finite x) → T (finite (add binary64 x (eighth (gap i x))))
smooth_finite i l nan t f = absurd f
smooth_finite i l (inf s) t f = absurd f
smooth_finite i l (fin s m e) t f =
    let x = fin s m e in
    let gf : T (finite (gap i x)) = gap_finite i l x t f in
    let gt : T (fits binary64 (gap i x)) = gap_fits i x in
    pair_finite x (eighth (gap i x)) t f (eighth_fits (gap i x)) (eighth_finite (gap i x) gt gf)
    (λ q. gap_sign i l s m e (subst (λ (z : Bool). T (Bool·beq s z)) (eighth_sign (gap i x) gf) q))

pub smoothed_finite : (x : Float) (missed : Bool) → T (fits binary64 x) → T (finite x) → T (finite (smoothed x missed))
unfolding smoothed eighth gap
smoothed_finite x true t f = rw (one-is, eighth_is) (smooth_finite 1 (lit≤ tt) x t f)
smoothed_finite x false t f = rw (zero_is, eighth_is) (smooth_finite 0 (lit≤ tt) x t f)

pub smoothed_fits : (x : Float) (missed : Bool) → T (fits binary64 (smoothed x missed))
unfolding smoothed
smoothed_fits x missed = add-fits binary64 x (mul binary64 (sub binary64 (miss_figure missed) x) f⅛)

-- a miss from zero, then a match: 0.125, then 0.109375
miss-match : (smoothed f0 true ≡ f⅛) × (smoothed f⅛ false ≡ of_bits binary64 0x3fbc_0000_0000_0000)
unfolding smoothed add sub mul sum neg round units size span climb odd count_trailing_zeros of_bits of_fields
miss-match = (refl, refl)
