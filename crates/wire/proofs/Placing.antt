-- Words put into a buffer one behind the other. Assumes nothing.
use Rattle.wire.specs.Names.{◌≡◌, List, [], ◌∷◌, ◌++◌, ℕ, zero, suc, ◌+◌, ◌*◌, ◌-◌, ◌/◌, ◌≤◌, leb, length, get_or, take, drop}
use Rattle.wire.proofs.Names.{refl, sym, ◌∙◌, ap, ap₂, append_assoc, ◌<◌, arith, add-one, dec_le, le-leb, lt-leb, pick_yes, length-append}
use Rattle.wire.proofs.Names.{length-drop, take-append-drop, length-take-le, word_bytes, bytes_of, placed, words_put}
use lib.Seq.{take_at, drop-cons, drop-nil, drop-append-add, drop-drop}

pub bytes-length : (ws : List ℕ) → length (bytes_of ws) ≡ 4 * length ws
unfolding bytes_of
bytes-length [] = refl
bytes-length (w ∷ ws) = length-append (word_bytes w) (bytes_of ws) ∙ (let r = bytes-length ws in omega arith)

pub bytes-append : (ws vs : List ℕ) → bytes_of (ws ++ vs) ≡ bytes_of ws ++ bytes_of vs
unfolding bytes_of
bytes-append [] vs = refl
bytes-append (w ∷ ws) vs = ap (λ (l : List ℕ). word_bytes w ++ l) (bytes-append ws vs) ∙ sym (append_assoc (word_bytes w) (bytes_of ws) (bytes_of vs))

-- no words
pub placed-none : (l : List ℕ) (at : ℕ) → placed l at [] ≡ l
unfolding placed bytes_of
placed-none l at = ap (λ (n : ℕ). take at l ++ drop n l) (let e : at + 4 * 0 ≡ at = omega arith in e) ∙ take-append-drop at l

module _ (l : List ℕ) (at : ℕ) (ws : List ℕ) (fits : at + 4 * length ws ≤ length l) where
  front : length (take at l ++ bytes_of ws) ≡ at + 4 * length ws
  front = length-append (take at l) (bytes_of ws) ∙ (let a = length-take-le at l (omega arith) in let b = bytes-length ws in omega arith)

  apart : placed l at ws ≡ (take at l ++ bytes_of ws) ++ drop (at + 4 * length ws) l
  unfolding placed
  apart = sym (append_assoc (take at l) (bytes_of ws) (drop (at + 4 * length ws) l))

  -- more words behind them
  pub placed_then : (vs : List ℕ) → at + 4 * (length ws + length vs) ≤ length l → placed (placed l at ws) (at + 4 * length ws) vs ≡ placed l at (ws ++ vs)
  unfolding placed
  placed_then vs h =
      ap (λ (m : List ℕ). take (at + 4 * length ws) m ++ (bytes_of vs ++ drop (at + 4 * length ws + 4 * length vs) m)) apart
      ∙ ap₂ (λ (x y : List ℕ). x ++ (bytes_of vs ++ y)) (take_at (take at l ++ bytes_of ws) (drop (at + 4 * length ws) l) (at + 4 * length ws) front) tail
      ∙ append_assoc (take at l) (bytes_of ws) (bytes_of vs ++ drop (at + 4 * length (ws ++ vs)) l)
      ∙ ap (λ (x : List ℕ). take at l ++ x) (sym (append_assoc (bytes_of ws) (bytes_of vs) (drop (at + 4 * length (ws ++ vs)) l))
      ∙ ap (λ (x : List ℕ). x ++ drop (at + 4 * length (ws ++ vs)) l) (sym (bytes-append ws vs)))
    where
      tail : drop (at + 4 * length ws + 4 * length vs) ((take at l ++ bytes_of ws) ++ drop (at + 4 * length ws) l) ≡ drop (at + 4 * length (ws ++ vs)) l
      tail =
          ap (λ (n : ℕ). drop (n + 4 * length vs) ((take at l ++ bytes_of ws) ++ drop (at + 4 * length ws) l)) (sym front)
          ∙ drop-append-add (take at l ++ bytes_of ws) (drop (at + 4 * length ws) l) (4 * length vs)
          ∙ drop-drop (4 * length vs) (at + 4 * length ws) l
          ∙ ap (λ (n : ℕ). drop n l) (let e = length-append ws vs in let d : at + 4 * length ws + 4 * length vs ≡ at + 4 * length (ws ++ vs) = omega arith in d)

-- the same in the buffer that a first writer left, for a second one
pub followed : (l m n : List ℕ) (at k : ℕ) (ws vs : List ℕ) → k ≡ at + 4 * length ws → at + 4 * (length ws + length vs) ≤ length l
    → m ≡ placed l at ws → n ≡ placed m k vs → n ≡ placed l at (ws ++ vs)
followed l m n at k ws vs e h p q =
    q ∙ ap₂ (λ (x : List ℕ) (i : ℕ). placed x i vs) p e ∙ placed_then l at ws (omega arith) vs h

-- words that have room are placed
pub written_fits : (l : List ℕ) (at : ℕ) (ws : List ℕ) → at + 4 * length ws ≤ length l → words_put l at ws ≡ placed l at ws
unfolding words_put
written_fits l at ws h = pick_yes _ _ _ (le-leb _ _ h)

-- one word of a list, and those that are left
pub words_turn : (ws out n : List ℕ) (at i : ℕ) → i < length ws → at + 4 * length ws ≤ length out
    → n ≡ placed out (at + 4 * i) (get_or ws i 0 ∷ []) → placed out (at + 4 * i) (drop i ws) ≡ placed n (at + 4 * (i + 1)) (drop (i + 1) ws)
words_turn ws out n at i h fits p =
    let rest = drop (i + 1) ws in
    let r = length-drop (i + 1) ws in
    ap (placed out (at + 4 * i)) (drop-cons ws i 0 h ∙ ap (λ (k : ℕ). get_or ws i 0 ∷ drop k ws) (sym (add-one i)))
    ∙ sym (placed_then out (at + 4 * i) (get_or ws i 0 ∷ []) (omega arith) rest (omega arith))
    ∙ ap₂ (λ (x : List ℕ) (j : ℕ). placed x j rest) (sym p) (let e : at + 4 * i + 4 ≡ at + 4 * (i + 1) = omega arith in e)

pub words-first : (ws out : List ℕ) (at : ℕ) → placed out at ws ≡ placed out (at + 4 * 0) (drop 0 ws)
words-first ws out at = ap (λ (j : ℕ). placed out j ws) (let e : at ≡ at + 4 * 0 = omega arith in e)

pub words-end : (ws out : List ℕ) (at i : ℕ) → length ws ≤ i → placed out at (drop i ws) ≡ out
words-end ws out at i h = ap (placed out at) (drop_all ws i h) ∙ placed-none out at
  where
    drop_all : (l : List ℕ) (k : ℕ) → length l ≤ k → drop k l ≡ []
    drop_all [] k g = drop-nil k
    drop_all (x ∷ xs) zero g = absurd (omega arith)
    drop_all (x ∷ xs) (suc k) g = drop_all xs k (omega arith)

-- as many words as fit behind an offset
pub room_for : (len at n : ℕ) → at ≤ len → leb n ((len - at) / 4) ≡ leb (at + 4 * n) len
room_for len at n h = elim (dec_le n ((len - at) / 4)) [
  | yes g ↦ le-leb n ((len - at) / 4) g ∙ sym (le-leb (at + 4 * n) len (omega arith))
  | no g ↦ lt-leb n ((len - at) / 4) (omega arith) ∙ sym (lt-leb (at + 4 * n) len (omega arith))
]
