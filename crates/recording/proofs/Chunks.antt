-- A list cut into pieces of one size, and pieces put together. Assumes nothing.
use Rattle.recording.specs.Names.{◌≡◌, List, ◌++◌, ℕ, zero, suc, ◌+◌, ◌-◌, ◌*◌, ◌≤◌, ◌<◌, length, take, drop}
use Rattle.recording.proofs.Names.{sym, ◌∙◌, ap, ap₂, arith, append_assoc, take_at, drop_at, drop-drop, pieces}
use Rattle.recording.proofs.Joins.{join_length}
use native.Mathlib.Nat.{mul-suc, add_comm, mul-zero}
use native.Mathlib.Decide.{dec_le}
use mathlib.Core.List.{append-nil}
use lib.ListN.{length-append}
use lib.Seq.{take-add, take_all}

-- k pieces from piece i on are so many bytes from there on
cut_joined : (l : List ℕ) (size i k : ℕ) → pieces (λ (j : ℕ). take size (drop (size * j) l)) i k ≡ take (size * k) (drop (size * i) l)
unfolding pieces
cut_joined l size i zero = sym (ap (λ (n : ℕ). take n (drop (size * i) l)) (mul-zero size))
cut_joined l size i (suc k) =
    ap (λ (x : List ℕ). take size (drop (size * i) l) ++ x)
    (cut_joined l size (i + 1) k
    ∙ ap (λ (n : ℕ). take (size * k) (drop n l)) (ap (λ (n : ℕ). size * n) (let e : i + 1 ≡ suc i = omega arith in e) ∙ mul-suc size i)
    ∙ ap (take (size * k)) (sym (drop-drop size (size * i) l)))
    ∙ sym (take-add size (size * k) (drop (size * i) l))
    ∙ ap (λ (n : ℕ). take n (drop (size * i) l)) (sym (mul-suc size k ∙ add_comm (size * k) size))

-- all pieces are the list
pub cut_whole : (l : List ℕ) (size n : ℕ) → length l ≤ size * n → pieces (λ (j : ℕ). take size (drop (size * j) l)) 0 n ≡ l
cut_whole l size n h =
    cut_joined l size 0 n
    ∙ ap (λ (k : ℕ). take (size * n) (drop k l)) (mul-zero size)
    ∙ take_all (size * n) l h

-- the first a pieces, then the others
pub join_split : (f : ℕ → List ℕ) (i a k : ℕ) → pieces f i (a + k) ≡ pieces f i a ++ pieces f (i + a) k
unfolding pieces
join_split f i zero k = ap₂ (pieces f) (let e : i ≡ i + 0 = omega arith in e) (let e : 0 + k ≡ k = omega arith in e)
join_split f i (suc a) k =
    ap (pieces f i) (let e : suc a + k ≡ suc (a + k) = omega arith in e)
    ∙ ap (λ (x : List ℕ). f i ++ x) (join_split f (i + 1) a k)
    ∙ sym (append_assoc (f i) (pieces f (i + 1) a) (pieces f (i + 1 + a) k))
    ∙ ap (λ (m : ℕ). (f i ++ pieces f (i + 1) a) ++ pieces f m k) (let e : i + 1 + a ≡ i + suc a = omega arith in e)

-- pieces of a size, the last perhaps shorter: piece i of what they make is piece i
module _ (f : ℕ → List ℕ) (size n : ℕ) (full : (j : ℕ) → j + 1 < n → length (f j) ≡ size) (short : (j : ℕ) → j < n → length (f j) ≤ size) where
  behind : (i : ℕ) → i < n → drop (size * i) (pieces f 0 n) ≡ pieces f i (n - i)
  behind i h =
      ap (drop (size * i)) (ap (pieces f 0) (let e : n ≡ i + (n - i) = omega arith in e) ∙ join_split f 0 i (n - i))
      ∙ drop_at (pieces f 0 i) (pieces f (0 + i) (n - i)) (size * i) (join_length f size 0 i (λ j a b. full j (omega arith)))
      ∙ ap (λ (k : ℕ). pieces f k (n - i)) (let e : 0 + i ≡ i = omega arith in e)

  pub join_at : (i : ℕ) → i < n → take size (drop (size * i) (pieces f 0 n)) ≡ f i
  unfolding pieces
  join_at i h =
      ap (take size) (behind i h ∙ ap (pieces f i) (let e : n - i ≡ suc (n - (i + 1)) = omega arith in e))
      ∙ (elim (dec_le n (i + 1)) [
        | yes g ↦
            ap (λ (k : ℕ). take size (f i ++ pieces f (i + 1) k)) (let e : n - (i + 1) ≡ 0 = omega arith in e)
            ∙ ap (take size) (append-nil (f i))
            ∙ take_all size (f i) (short i h)
        | no g ↦ take_at (f i) (pieces f (i + 1) (n - (i + 1))) size (full i (omega arith))
      ])

  -- and how long they are
  pub join_long : (k : ℕ) → n ≡ suc k → length (pieces f 0 n) ≡ size * k + length (f k)
  unfolding pieces
  join_long k e =
      ap (λ (m : ℕ). length (pieces f 0 m)) (e ∙ (let z : suc k ≡ k + 1 = omega arith in z))
      ∙ ap length (join_split f 0 k 1)
      ∙ length-append (pieces f 0 k) (pieces f (0 + k) 1)
      ∙ ap₂ ◌+◌ (join_length f size 0 k (λ j a b. full j (omega arith)))
      (ap length (append-nil (f (0 + k)) ∙ ap f (let z : 0 + k ≡ k = omega arith in z)))
