-- Bytes in a memory. Assumes nothing.
use Rattle.wire.specs.Names.{◌≡◌, List, [], ◌++◌, ℕ, ◌+◌, ◌*◌, ◌-◌, ◌≤◌, length, take, drop}
use Rattle.wire.proofs.Names.{refl, sym, ap, ap₂, ◌∙◌, append_assoc, arith, length-append, length-drop, take-append-drop, length-take-le, bytes_of, placed, words_put, le-leb, pick_yes}
use mathlib.Core.List.{append-nil}
use native.Mathlib.Nat.{add-zero}
use lib.Seq.{paste, take-length, take_at, drop_at, drop-append-add, drop-drop, drop-length}
use borrow.Rule.Slice.PartMut.{put_mid, Post-is}
use Rattle.wire.specs.Words.{pasted, bytes_put}
use Rattle.wire.specs.Spliced.{bytes_by, spliced}
use Rattle.wire.proofs.Placing.{bytes-length, written_fits}
use Rattle.wire.proofs.Splices

pub pasted-none : (l : List ℕ) (at : ℕ) → pasted l at [] ≡ l
unfolding pasted
pasted-none l at = ap₂ (λ (a : List ℕ) (n : ℕ). a ++ drop n l) (append-nil (take at l)) (add-zero at) ∙ take-append-drop at l

-- bytes stored in a part that is as long
pub stored : (l ys s : List ℕ) (at e : ℕ) → at ≤ e → ys ≡ s → e ≡ at + length s → put_mid at (e - at) l ys ≡ pasted l at s
unfolding pasted
stored l ys s at e h p q =
    ap₂ (λ (x y : List ℕ). take at l ++ (x ++ y)) p (Post-is at e l h ∙ ap (λ (n : ℕ). drop n l) q)
    ∙ sym (append_assoc (take at l) s (drop (at + length s) l))

module _ (l : List ℕ) (at : ℕ) (s : List ℕ) (fits : at + length s ≤ length l) where
  front : length (take at l ++ s) ≡ at + length s
  front = length-append (take at l) s ∙ ap (λ (n : ℕ). n + length s) (length-take-le at l (omega arith))

  pub pasted_length : length (pasted l at s) ≡ length l
  unfolding pasted
  pasted_length = omega (arith, length-append (take at l ++ s) (drop (at + length s) l), front, length-drop (at + length s) l)

  -- bytes behind bytes
  pub pasted_then : (t : List ℕ) → pasted (pasted l at s) (at + length s) t ≡ pasted l at (s ++ t)
  unfolding pasted
  pasted_then t =
      ap₂ (λ (a b : List ℕ). (a ++ t) ++ b)
      (take_at (take at l ++ s) (drop (at + length s) l) (at + length s) front)
      (ap (λ (n : ℕ). drop (n + length t) ((take at l ++ s) ++ drop (at + length s) l)) (sym front)
      ∙ drop-append-add (take at l ++ s) (drop (at + length s) l) (length t)
      ∙ drop-drop (length t) (at + length s) l
      ∙ ap (λ (n : ℕ). drop n l) (let e = length-append s t in let z : at + length s + length t ≡ at + length (s ++ t) = omega arith in z))
      ∙ ap (λ (a : List ℕ). a ++ drop (at + length (s ++ t)) l) (append_assoc (take at l) s t)

  -- the bytes as they then lie there
  pub pasted_at : take (length s) (drop at (pasted l at s)) ≡ s
  unfolding pasted
  pasted_at =
      ap (λ (x : List ℕ). take (length s) (drop at x)) (append_assoc (take at l) s (drop (at + length s) l))
      ∙ ap (take (length s)) (drop_at (take at l) (s ++ drop (at + length s) l) at (length-take-le at l (omega arith)))
      ∙ take_at s (drop (at + length s) l) (length s) refl

-- the same in the memory that a first writer left, for a second one
pub pasted_followed : (l m n : List ℕ) (at k : ℕ) (s t : List ℕ) → k ≡ at + length s → at + length s ≤ length l → m ≡ pasted l at s → n ≡ pasted m k t
    → n ≡ pasted l at (s ++ t)
pasted_followed l m n at k s t e h p q = q ∙ ap₂ (λ (x : List ℕ) (i : ℕ). pasted x i t) p e ∙ pasted_then l at s h t

-- a copy of all of a list
pub copied : (l o s : List ℕ) (at i : ℕ) → i ≡ length s → o ≡ paste l at s i → o ≡ pasted l at s
unfolding pasted
copied l o s at i e h =
    h
    ∙ ap (λ (k : ℕ). paste l at s k) e
    ∙ ap (λ (t : List ℕ). (take at l ++ t) ++ drop (at + length s) l) (take-length s)

-- bytes that have room
pub bytes_fit : (l : List ℕ) (at : ℕ) (s : List ℕ) → at + length s ≤ length l → bytes_put l at s ≡ pasted l at s
unfolding bytes_put
bytes_fit l at s h = pick_yes _ _ _ (le-leb _ _ h)

-- words that have room, as their bytes
pub words-pasted : (l : List ℕ) (at : ℕ) (ws : List ℕ) → placed l at ws ≡ pasted l at (bytes_of ws)
unfolding placed pasted
words-pasted l at ws =
    ap (λ (n : ℕ). take at l ++ (bytes_of ws ++ drop (at + n) l)) (sym (bytes-length ws))
    ∙ sym (append_assoc (take at l) (bytes_of ws) (drop (at + length (bytes_of ws)) l))

-- words given by a function, as their bytes
pub spliced-pasted : (l : List ℕ) (at : ℕ) (f : ℕ → ℕ) (k : ℕ) → spliced l at f k ≡ pasted l at (bytes_by f k)
unfolding spliced pasted
spliced-pasted l at f k =
    ap (λ (n : ℕ). take at l ++ (bytes_by f k ++ drop (at + n) l)) (sym (Splices.bytes-length f k))
    ∙ sym (append_assoc (take at l) (bytes_by f k) (drop (at + length (bytes_by f k)) l))

-- words that fill a part of a memory
pub part_filled : (l : List ℕ) (at k : ℕ) (ws : List ℕ) → k ≡ 4 * length ws → at + k ≤ length l
    → take at l ++ (words_put (take k (drop at l)) 0 ws ++ drop k (drop at l)) ≡ pasted l at (bytes_of ws)
unfolding placed pasted
part_filled l at k ws e h =
    let part : List ℕ = take k (drop at l) in
    let len : length part ≡ k = length-take-le k (drop at l) (omega (arith, length-drop at l)) in
    ap₂ (λ (x y : List ℕ). take at l ++ (x ++ y))
    (written_fits part 0 ws (omega arith) ∙ ap (λ (n : ℕ). bytes_of ws ++ drop n part) (let z : 0 + 4 * length ws ≡ length part = omega arith in z)
    ∙ ap (λ (x : List ℕ). bytes_of ws ++ x) (drop-length part) ∙ append-nil (bytes_of ws))
    (drop-drop k at l ∙ ap (λ (n : ℕ). drop n l) (let z : at + k ≡ at + length (bytes_of ws) = omega (arith, bytes-length ws) in z))
    ∙ sym (append_assoc (take at l) (bytes_of ws) (drop (at + length (bytes_of ws)) l))
