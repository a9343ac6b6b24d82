-- One turn of the loop over the slots: what is left to write. Assumes nothing.
use Rattle.state.specs.Names.{◌≡◌, List, [], ◌∷◌, ℕ, suc, ◌+◌, ◌*◌, ◌≤◌, length, get_or, slots, placed, words_put, swapped}
use Rattle.state.proofs.Names.{sym, ◌∙◌, ap, ap₂, ◌-◌, ◌<◌, arith, written_fits, slot_words}
use Rattle.wire.proofs.Placing.{placed-none, placed_then}
use Rattle.state.proofs.Lengths.{slots_length}

-- the slots from slot i on
abbrev pub slots_left : List ℕ → List ℕ → ℕ → List ℕ
slots_left cam ram i = slot_words cam ram i (slots - i)

slots_next : (cam ram : List ℕ) (i : ℕ) → i < slots
    → slots_left cam ram i ≡ swapped (get_or cam i 0) ∷ swapped (get_or ram i 0) ∷ slots_left cam ram (i + 1)
unfolding slot_words
slots_next cam ram i h = ap (slot_words cam ram i) (let e : slots - i ≡ suc (slots - (i + 1)) = omega arith in e)

pub slots_turn : (cam ram out n : List ℕ) (at i a b : ℕ) → i < slots → at + 256 ≤ length out
    → a ≡ swapped (get_or cam i 0) → b ≡ swapped (get_or ram i 0) → n ≡ words_put out (at + 8 * i) (a ∷ b ∷ [])
    → placed out (at + 8 * i) (slots_left cam ram i) ≡ placed n (at + 8 * (i + 1)) (slots_left cam ram (i + 1))
slots_turn cam ram out n at i a b h fits ea eb p =
    let k = at + 8 * i in
    let rest = slots_left cam ram (i + 1) in
    let l = slots_length cam ram (i + 1) (slots - (i + 1)) in
    ap (placed out k) (slots_next cam ram i h ∙ ap₂ (λ (x y : ℕ). x ∷ y ∷ rest) (sym ea) (sym eb))
    ∙ sym (placed_then out k (a ∷ b ∷ []) (omega arith) rest (omega arith))
    ∙ ap₂ (λ (x : List ℕ) (j : ℕ). placed x j rest) (sym (p ∙ written_fits out k (a ∷ b ∷ []) (omega arith))) (let e : k + 8 ≡ at + 8 * (i + 1) = omega arith in e)

pub slots-first : (cam ram out : List ℕ) (at : ℕ) → placed out at (slot_words cam ram 0 slots) ≡ placed out (at + 8 * 0) (slots_left cam ram 0)
slots-first cam ram out at = ap (λ (j : ℕ). placed out j (slot_words cam ram 0 slots)) (let e : at ≡ at + 8 * 0 = omega arith in e)

pub slots_end : (cam ram out : List ℕ) (at i : ℕ) → slots ≤ i → placed out at (slots_left cam ram i) ≡ out
unfolding slot_words
slots_end cam ram out at i h = ap (λ (n : ℕ). placed out at (slot_words cam ram i n)) (let e : slots - i ≡ 0 = omega arith in e) ∙ placed-none out at
