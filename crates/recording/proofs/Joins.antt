-- Pieces one behind the other. Assumes nothing.
use Rattle.recording.specs.Names.{◌≡◌, List, [], ◌++◌, ℕ, zero, suc, ◌+◌, ◌-◌, ◌*◌, ◌≤◌, ◌<◌, length, pasted}
use Rattle.recording.proofs.Names.{refl, sym, ◌∙◌, ap, ap₂, arith, length-append, pieces}
use Rattle.wire.proofs.Pastes.{pasted_then, pasted-none}
use native.Mathlib.Nat.{mul-suc, add_comm}

-- piece i, then those behind it
pub join_next : (f : ℕ → List ℕ) (n i : ℕ) → i < n → pieces f i (n - i) ≡ f i ++ pieces f (i + 1) (n - (i + 1))
unfolding pieces
join_next f n i h = ap (pieces f i) (let e : n - i ≡ suc (n - (i + 1)) = omega arith in e)

-- none
pub join_none : (f : ℕ → List ℕ) (n i : ℕ) → n ≤ i → pieces f i (n - i) ≡ []
unfolding pieces
join_none f n i h = ap (pieces f i) (let e : n - i ≡ 0 = omega arith in e)

-- pieces that are alike
pub join_same : (f g : ℕ → List ℕ) (i k : ℕ) → ((j : ℕ) → i ≤ j → j < i + k → f j ≡ g j) → pieces f i k ≡ pieces g i k
unfolding pieces
join_same f g i zero e = refl
join_same f g i (suc k) e = ap₂ ◌++◌ (e i (omega arith) (omega arith)) (join_same f g (i + 1) k (λ j a b. e j (omega arith) (omega arith)))

-- one piece put, in a memory in which those that are left are to be put
pub put_next : (f : ℕ → List ℕ) (n i at : ℕ) (l m : List ℕ) → i < n → at + length (pieces f i (n - i)) ≤ length l → m ≡ pasted l at (f i)
    → pasted l at (pieces f i (n - i)) ≡ pasted m (at + length (f i)) (pieces f (i + 1) (n - (i + 1)))
put_next f n i at l m h fits e =
    ap (pasted l at) (join_next f n i h)
    ∙ sym (pasted_then l at (f i) (omega (arith, ap length (join_next f n i h), length-append (f i) (pieces f (i + 1) (n - (i + 1))))) (pieces f (i + 1) (n - (i + 1))))
    ∙ ap (λ (o : List ℕ). pasted o (at + length (f i)) (pieces f (i + 1) (n - (i + 1)))) (sym e)

pub put_none : (f : ℕ → List ℕ) (n i at : ℕ) (l : List ℕ) → n ≤ i → pasted l at (pieces f i (n - i)) ≡ l
put_none f n i at l h = ap (pasted l at) (join_none f n i h) ∙ pasted-none l at

-- the lengths
pub length_next : (f : ℕ → List ℕ) (n i : ℕ) → i < n → length (pieces f i (n - i)) ≡ length (f i) + length (pieces f (i + 1) (n - (i + 1)))
length_next f n i h = ap length (join_next f n i h) ∙ length-append (f i) (pieces f (i + 1) (n - (i + 1)))

-- pieces of one length: how long they are together, and where each lies
module _ (f : ℕ → List ℕ) (size : ℕ) where
  pub join_length : (i k : ℕ) → ((j : ℕ) → i ≤ j → j < i + k → length (f j) ≡ size) → length (pieces f i k) ≡ size * k
  unfolding pieces
  join_length i zero e = omega arith
  join_length i (suc k) e =
      length-append (f i) (pieces f (i + 1) k)
      ∙ ap₂ ◌+◌ (e i (omega arith) (omega arith)) (join_length (i + 1) k (λ j a b. e j (omega arith) (omega arith)))
      ∙ sym (mul-suc size k ∙ add_comm (size * k) size)

-- all of them, as a loop begins
pub join_start : (f : ℕ → List ℕ) (n : ℕ) → pieces f 0 n ≡ pieces f 0 (n - 0)
join_start f n = ap (pieces f 0) (let e : n ≡ n - 0 = omega arith in e)
