-- The parts of a state, one behind the other. Assumes nothing.
use Rattle.state.specs.Names.{◌≡◌, List, ◌++◌, ℕ, ◌+◌, ◌*◌, ◌≤◌, length, Bench, placed, words_put}
use Rattle.state.proofs.Names.{◌∙◌, ◌<◌, arith, length-append, lt-leb, pick_no, written_fits, state_words}
use Rattle.wire.proofs.Placing.{followed}
use Rattle.state.proofs.Lengths.{state_length}

-- registers, slots and the pending fault
pub three : (l k m n r s p : List ℕ) (at : ℕ) → length r ≡ 7 → length s ≡ 64 → length p ≡ 2
    → at + 292 ≤ length l → length k ≡ length l → length m ≡ length k
    → k ≡ words_put l at r → m ≡ placed k (at + 28) s → n ≡ words_put m (at + 284) p → n ≡ placed l at (r ++ (s ++ p))
three l k m n r s p at er es ep h a b u v w =
    let x = length-append s p in
    followed l k n at (at + 28) r (s ++ p) (omega arith) (omega arith) (u ∙ written_fits l at r (omega arith))
    (followed k m n (at + 28) (at + 284) s p (omega arith) (omega arith) v (w ∙ written_fits m (at + 284) p (omega arith)))

-- the device, and the meters with the bill
pub two : (l m n d r : List ℕ) (at : ℕ) → length d ≡ 73 → length r ≡ 9 → at + 328 ≤ length l → length m ≡ length l
    → m ≡ placed l at d → n ≡ words_put m (at + 292) r → n ≡ placed l at (d ++ r)
two l m n d r at ed er h a u w =
    followed l m n at (at + 292) d r (omega arith) (omega arith) u (w ∙ written_fits m (at + 292) r (omega arith))

-- the whole state, where it has room and where it has none
module _ (l : List ℕ) (at handed : ℕ) (b : Bench) where
  pub state_fits : at + 328 ≤ length l → words_put l at (state_words handed b) ≡ placed l at (state_words handed b)
  state_fits h = let e = state_length handed b in written_fits l at (state_words handed b) (omega arith)

  pub state_unfit : length l < at + 328 → words_put l at (state_words handed b) ≡ l
  unfolding words_put
  state_unfit h = let e = state_length handed b in pick_no _ _ _ (lt-leb (at + 4 * length (state_words handed b)) (length l) (omega arith))
