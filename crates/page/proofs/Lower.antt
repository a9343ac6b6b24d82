-- The laws of an address's upper and lower bits, over how many the lower ones are. Assumes nothing.
use mathlib.Core.Path.{◌≡◌, refl, sym, ap, ap₂, ◌∙◌, subst}
use mathlib.Core.Bool.{Bool, true, false}
use Prim.Native.Nat.{ℕ, ◌+◌, ◌-◌, ◌*◌, ◌/◌, ◌%◌, ◌^◌, ◌≤◌, ◌<◌}
use native.Mathlib.Nat.{add-sub_of_le, div-mul-le_self, div-eq_of_lt, div-lt_iff_lt-mul, lt_of_le_of_lt, mod-eq_of_lt, mod-lt, suc-mul, mul-le-mul_right}
use native.Mathlib.Omega.{arith}
use lib.Pow.{shr-shr, shl-shr, split, pow_pos, pow-add, shr_lt, high, low}
use lib.Dec.{eqb, ltb}
use lib.Bits.{bit_xor, xor_shr, xor_self, xor_add_and, and_le_l, and_le_r}
use borrow.Author.Tests.{eqb-true, eq-eqb, ne_eqb, ltb-true, ltb-false}
use Rattle.page.specs.Low.{upper, agree, joined}

module _ (n : ℕ) where
  -- a page starts no later than its addresses
  pub upper-le : (x : ℕ) → upper n x ≤ x
  unfolding upper
  upper-le x = div-mul-le_self x (2 ^ n)

  -- its lower bits are zero, and its upper bits are the address's
  pub upper_high : (x : ℕ) → upper n x / 2 ^ n ≡ x / 2 ^ n
  unfolding upper
  upper_high x = shl-shr (x / 2 ^ n) n

  pub upper-upper : (x : ℕ) → upper n (upper n x) ≡ upper n x
  unfolding upper
  upper-upper x = ap (λ (q : ℕ). q * 2 ^ n) (upper_high x)

  -- an address is its page's start and its place in the page
  pub upper-rest : (x : ℕ) → x - upper n x ≡ x % 2 ^ n
  unfolding upper
  upper-rest x = omega (arith, split x n)

  pub round_trip : (x : ℕ) → joined n x x ≡ x
  unfolding joined upper
  round_trip x = omega (arith, split x n)

  -- a joined address has the upper bits of the one and the lower bits of the other
  pub joined_high : (a b : ℕ) → joined n a b / 2 ^ n ≡ a / 2 ^ n
  unfolding joined upper
  joined_high a b = high (a / 2 ^ n) n (mod-lt b (pow_pos n))

  pub joined_low : (a b : ℕ) → joined n a b % 2 ^ n ≡ b % 2 ^ n
  unfolding joined upper
  joined_low a b = low (a / 2 ^ n) n (mod-lt b (pow_pos n))

  -- and nothing else of either
  pub joined-agree : (a a' b : ℕ) → a / 2 ^ n ≡ a' / 2 ^ n → joined n a b ≡ joined n a' b
  unfolding joined upper
  joined-agree a a' b e = ap (λ (q : ℕ). q * 2 ^ n + b % 2 ^ n) e

  -- two addresses that agree lie in one page
  pub agree-start : (a b : ℕ) → agree n a b ≡ true → upper n a ≡ upper n b
  unfolding upper
  agree-start a b e = ap (λ (q : ℕ). q * 2 ^ n) (eqb-true _ _ e)

  pub start_agrees : (x : ℕ) → agree n x (upper n x) ≡ true
  start_agrees x = eq-eqb _ _ (sym (upper_high x))

  -- upper bits with any lower ones stay below the power that they were below
  pub upper_lt : (m x l : ℕ) → x < 2 ^ (m + n) → l < 2 ^ n → upper n x + l < 2 ^ (m + n)
  unfolding upper
  upper_lt m x l h hl =
      omega (arith, suc-mul (x / 2 ^ n) (2 ^ n), mul-le-mul_right (2 ^ n) (shr_lt m n h), pow-add 2 m n)

  pub joined-lt : (w a b : ℕ) → n ≤ w → a < 2 ^ w → joined n a b < 2 ^ w
  unfolding joined
  joined-lt w a b hn h =
      let e : (w - n) + n ≡ w = omega arith in
      subst (λ (k : ℕ). upper n a + b % 2 ^ n < 2 ^ k) e
      (upper_lt (w - n) a (b % 2 ^ n) (subst (λ (k : ℕ). a < 2 ^ k) (sym e) h) (mod-lt b (pow_pos n)))

  -- a shift right and left at a width that holds the number
  pub shifted : (w x : ℕ) → x < 2 ^ w → (x / 2 ^ n * 2 ^ n) % 2 ^ w ≡ upper n x
  unfolding upper
  shifted w x h = mod-eq_of_lt (lt_of_le_of_lt (upper-le x) h)

-- two addresses that agree above s bits agree above any more
pub agree_up : (s b x y : ℕ) → s ≤ b → x / 2 ^ s ≡ y / 2 ^ s → x / 2 ^ b ≡ y / 2 ^ b
agree_up s b x y h e =
    subst (λ (c : ℕ). x / 2 ^ c ≡ y / 2 ^ c) (add-sub_of_le h)
    (sym (shr-shr x s (b - s)) ∙ ap (λ (z : ℕ). z / 2 ^ (b - s)) e ∙ shr-shr y s (b - s))

-- two page numbers of 2^m bytes agree above n bits exactly where the addresses agree above m + n
pub pages-agree : (m n a t : ℕ) → eqb (a / 2 ^ m / 2 ^ n) (t / 2 ^ n) ≡ agree (m + n) a (t * 2 ^ m)
pages-agree m n a t =
    ap₂ eqb (shr-shr a m n) (ap (λ (x : ℕ). x / 2 ^ n) (sym (shl-shr t m)) ∙ shr-shr (t * 2 ^ m) m n)

-- two numbers with no bit apart are equal
xor-zero : (a b : ℕ) → bit_xor a b ≡ 0 → a ≡ b
xor-zero a b e = omega (arith, e, xor_add_and a b, and_le_l a b, and_le_r a b)

-- two numbers agree above n bits exactly where the bits in which they are apart make less than 2^n
pub apart-agree : (n a b : ℕ) → ltb (bit_xor a b) (2 ^ n) ≡ agree n a b
apart-agree n a b = by_test (ltb (bit_xor a b) (2 ^ n)) refl
  where
    by_test : (t : Bool) → ltb (bit_xor a b) (2 ^ n) ≡ t → t ≡ agree n a b
    by_test true e = sym (eq-eqb _ _ (xor-zero (a / 2 ^ n) (b / 2 ^ n) (sym (xor_shr a b n) ∙ div-eq_of_lt (ltb-true _ _ e))))
    by_test false e =
        sym
        (ne_eqb (a / 2 ^ n) (b / 2 ^ n)
        (λ q.
        let z : bit_xor a b / 2 ^ n ≡ 0 = xor_shr a b n ∙ ap (λ (x : ℕ). bit_xor x (b / 2 ^ n)) q ∙ xor_self (b / 2 ^ n) in
        let l : bit_xor a b < 1 * 2 ^ n = (div-lt_iff_lt-mul (pow_pos n)).0 (omega (arith, z)) in
        omega (arith, l, ltb-false (bit_xor a b) (2 ^ n) e)))

-- an upper part and a rest, each computed apart
pub joined_parts : (n a b x y : ℕ) → x ≡ upper n a → y ≡ upper n b → x + (b - y) ≡ joined n a b
unfolding joined
joined_parts n a b x y e f = ap₂ (λ (p q : ℕ). p + (b - q)) e f ∙ ap (λ (q : ℕ). upper n a + q) (upper-rest n b)
