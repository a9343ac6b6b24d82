-- The calls of two lists of bytes, one behind the other. Assumes nothing.
use Rattle.std.proofs.Common.{Option}
use Rattle.replay.specs.Names.{◌≡◌, List, ◌∷◌, ◌++◌, ℕ, zero, suc, ◌+◌, ◌*◌, length, call_count, calls_in, Call}
use Rattle.replay.proofs.Names.{refl, sym, ◌∙◌, ap, ap₂, arith, ◌≤◌, take, drop, length-append, le-leb, pick_yes, call_at, calls_from}
use Rattle.calls.specs.Records.{call_of}
use lib.Seq.{take-append-le, drop-append-le, drop-append-add}
use lib.ListN.{length-drop}

-- as many calls as are taken
pub calls-length : (l : List ℕ) (i k : ℕ) → length (calls_from l i k) ≡ k
unfolding calls_from
calls-length l i zero = refl
calls-length l i (suc k) = ap suc (calls-length l (i + 1) k)

-- some calls, then those behind them
calls_split : (l : List ℕ) (i j k : ℕ) → calls_from l i (j + k) ≡ calls_from l i j ++ calls_from l (i + j) k
unfolding calls_from
calls_split l i zero k = ap₂ (calls_from l) (let e : i ≡ i + 0 = omega arith in e) (let e : 0 + k ≡ k = omega arith in e)
calls_split l i (suc j) k =
    ap (calls_from l i) (let e : suc j + k ≡ suc (j + k) = omega arith in e)
    ∙ ap (λ (cs : List (Option Call)). call_at l (12 * i) ∷ cs)
    (calls_split l (i + 1) j k ∙ ap (λ (x : ℕ). calls_from l (i + 1) j ++ calls_from l x k) (let e : i + 1 + j ≡ i + suc j = omega arith in e))

module _ (x y : List ℕ) where
  -- a call of the first
  call_left : (at : ℕ) → at + 12 ≤ length x → call_at (x ++ y) at ≡ call_at x at
  unfolding call_at
  call_left at h =
      pick_yes _ _ _ (le-leb (at + 12) (length (x ++ y)) (omega (arith, length-append x y)))
      ∙ ap call_of (ap (take 12) (drop-append-le at x y (omega arith)) ∙ take-append-le 12 (drop at x) y (omega (arith, length-drop at x)))
      ∙ sym (pick_yes _ _ _ (le-leb (at + 12) (length x) h))

  calls_left : (i n : ℕ) → 12 * (i + n) ≤ length x → calls_from (x ++ y) i n ≡ calls_from x i n
  unfolding calls_from
  calls_left i zero h = refl
  calls_left i (suc n) h = ap₂ ◌∷◌ (call_left (12 * i) (omega arith)) (calls_left (i + 1) n (omega arith))

  -- a call of the second
  call_right : (at : ℕ) → at + 12 ≤ length y → call_at (x ++ y) (length x + at) ≡ call_at y at
  unfolding call_at
  call_right at h =
      pick_yes _ _ _ (le-leb (length x + at + 12) (length (x ++ y)) (omega (arith, length-append x y)))
      ∙ ap (λ (l : List ℕ). call_of (take 12 l)) (drop-append-add x y at)
      ∙ sym (pick_yes _ _ _ (le-leb (at + 12) (length y) h))

  module _ (k : ℕ) (whole : length x ≡ 12 * k) where
    calls_right : (i n : ℕ) → 12 * (i + n) ≤ length y → calls_from (x ++ y) (k + i) n ≡ calls_from y i n
    unfolding calls_from
    calls_right i zero h = refl
    calls_right i (suc n) h =
        ap₂ ◌∷◌ (ap (call_at (x ++ y)) (let e : 12 * (k + i) ≡ length x + 12 * i = omega arith in e) ∙ call_right (12 * i) (omega arith))
        (ap (λ (j : ℕ). calls_from (x ++ y) j n) (let e : k + i + 1 ≡ k + (i + 1) = omega arith in e) ∙ calls_right (i + 1) n (omega arith))

    -- all of both, where the first has whole records
    pub calls-both : calls_in (x ++ y) ≡ calls_in x ++ calls_in y
    calls-both =
        ap (calls_from (x ++ y) 0) (let e : call_count (x ++ y) ≡ call_count x + call_count y = omega (arith, length-append x y) in e)
        ∙ calls_split (x ++ y) 0 (call_count x) (call_count y)
        ∙ ap₂ ◌++◌ (calls_left 0 (call_count x) (omega arith))
        (ap (λ (j : ℕ). calls_from (x ++ y) j (call_count y)) (let e : 0 + call_count x ≡ k + 0 = omega arith in e) ∙ calls_right 0 (call_count y) (omega arith))
