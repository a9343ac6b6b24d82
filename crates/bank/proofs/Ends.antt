-- Lanes that hold an end of each slot's span. Assumes nothing.
use Rattle.bank.specs.Names.{◌≡◌, Bool, List, ℕ, ◌+◌, ◌%◌, ◌/◌, ◌*◌, ◌<◌, eqb, length, get_or, set}
use Rattle.bank.proofs.Names.{refl, sym, ◌∙◌, ap, true, false, ◌≤◌, arith, length-set, get_or-set_same, get_or-set_other, eqb-true, eqb-false}
use Rattle.bank.proofs.Names.{eq-eqb, ne_eqb, pick_yes, pick_no, Ends, EndsKept, low_of, high_of}
use Rattle.std.proofs.Common.{add-zero}
use Rattle.page.proofs.Picks.{bits_01, bits_10, bits_11}
use Rattle.bank.specs.Spans.{by_type}

-- the choice by a word's type
module _ (w a b c d : ℕ) where
  by_0 : w % 4 ≡ 0 → a ≡ by_type w a b c d
  by_0 e = sym (pick_yes _ _ _ (eq-eqb (w % 4) 0 e))

  pub by_1 : w % 4 ≡ 1 → by_type w a b c d ≡ b
  by_1 e = sym (bits_01 a b c d w e)

  pub by_2 : w % 4 ≡ 2 → by_type w a b c d ≡ c
  by_2 e = sym (bits_10 a b c d w e)

  by_3 : w % 4 ≡ 3 → d ≡ by_type w a b c d
  by_3 e = bits_11 a b c d w (λ q. omega (arith, e, q)) (λ q. omega (arith, e, q)) (λ q. omega (arith, e, q))

-- the ends of a valid word's span, from the lowest number and how many follow it
module _ (w : ℕ) (valid : w / 4 % 2 ≡ 0 → ⊥) (t : ℕ × ℕ) where
  abbrev pub IsSpan : Type 0
  IsSpan = (t.0 ≡ low_of w) × (t.0 + t.1 ≡ high_of w)

  is_span : (x k : ℕ) → t ≡ (x, k) → x ≡ by_type w (w / 16384 % 16 * 1024) (w / 1024 % 256 * 64) (w / 64 % 4096 * 4) (w / 16 % 16384)
      → x + k ≡ by_type w (w / 16384 % 16 * 1024 + 1023) (w / 1024 % 256 * 64 + 63) (w / 64 % 4096 * 4 + 3) (w / 16 % 16384) → IsSpan
  unfolding low_of high_of
  is_span x k e l h =
      let n = ne_eqb (w / 4 % 2) 0 valid in
      (ap (λ (p : ℕ × ℕ). p.0) e ∙ l ∙ sym (pick_no _ _ _ n), ap (λ (p : ℕ × ℕ). p.0 + p.1) e ∙ h ∙ sym (pick_no _ _ _ n))

  pub section_span : w % 4 ≡ 0 → t ≡ (w / 16384 % 16 * 1024, 1023) → IsSpan
  section_span k e = is_span _ _ e (by_0 _ _ _ _ _ k) (by_0 _ _ _ _ _ k)

  pub large_span : w % 4 ≡ 1 → t ≡ (w / 1024 % 256 * 64, 63) → IsSpan
  large_span k e = is_span _ _ e (sym (by_1 _ _ _ _ _ k)) (sym (by_1 _ _ _ _ _ k))

  pub small_span : w % 4 ≡ 2 → t ≡ (w / 64 % 4096 * 4, 3) → IsSpan
  small_span k e = is_span _ _ e (sym (by_2 _ _ _ _ _ k)) (sym (by_2 _ _ _ _ _ k))

  pub tiny_span : w % 4 ≡ 3 → t ≡ (w / 16 % 16384, 0) → IsSpan
  tiny_span k e = is_span _ _ e (by_3 _ _ _ _ _ k) (add-zero _ ∙ by_3 _ _ _ _ _ k)

-- an element set where the others below n are as they should be
each_set : (g : ℕ → ℕ) (n i v : ℕ) (out : List ℕ) → i < length out → ((j : ℕ) → j < n → (j ≡ i → ⊥) → get_or out j 0 ≡ g j) → v ≡ g i → (j : ℕ) → j < n → get_or (set out i v) j 0 ≡ g j
each_set g n i v out h k e j l = at (eqb j i) refl
  where
    at : (t : Bool) → eqb j i ≡ t → get_or (set out i v) j 0 ≡ g j
    at true q =
        let p : j ≡ i = eqb-true j i q in
        ap (λ (x : ℕ). get_or (set out i v) x 0) p ∙ get_or-set_same out i v 0 h ∙ e ∙ ap g (sym p)
    at false q = get_or-set_other out i j v 0 (eqb-false j i q) ∙ k j l (eqb-false j i q)

below : (i j : ℕ) → j < i + 1 → (j ≡ i → ⊥) → j < i
below i j l q = omega (arith, q)

-- the ends of the first n slots
pub record Filled (cam lows highs : List ℕ) (n : ℕ) : Type 0 where
  pub low_ends : Ends low_of n cam lows
  pub high_ends : Ends high_of n cam highs
  pub lows_long : length lows ≡ 32
  pub highs_long : length highs ≡ 32

pub ends_more : (f : ℕ → ℕ) (cam : List ℕ) (i v : ℕ) (out : List ℕ) → i < length out → Ends f i cam out → v ≡ f (get_or cam i 0) → Ends f (i + 1) cam (set out i v)
ends_more f cam i v out h w e = each_set (λ j. f (get_or cam j 0)) (i + 1) i v out h (λ j l q. w j (below i j l q)) e

pub filled_more : (cam lows highs : List ℕ) (i lo hi : ℕ) → i < 32 → Filled cam lows highs i → lo ≡ low_of (get_or cam i 0) → hi ≡ high_of (get_or cam i 0)
    → Filled cam (set lows i lo) (set highs i hi) (i + 1)
filled_more cam lows highs i lo hi h w q r = record {
  low_ends = ends_more low_of cam i lo lows (omega (arith, w.lows_long)) w.low_ends q;
  high_ends = ends_more high_of cam i hi highs (omega (arith, w.highs_long)) w.high_ends r;
  lows_long = length-set lows i lo ∙ w.lows_long;
  highs_long = length-set highs i hi ∙ w.highs_long;
}

-- a slot's word set, and the end of its span
pub ends-both : (f : ℕ → ℕ) (n i w e : ℕ) (cam out : List ℕ) → i < length cam → i < length out → Ends f n cam out → e ≡ f w → Ends f n (set cam i w) (set out i e)
ends-both f n i w e cam out h k ends q =
    each_set (λ j. f (get_or (set cam i w) j 0)) n i e out k
    (λ j l ne. ends j l ∙ ap f (sym (get_or-set_other cam i j w 0 ne)))
    (q ∙ ap f (sym (get_or-set_same cam i w 0 h)))
