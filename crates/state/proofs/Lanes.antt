-- A lane by the number of each of its words. Assumes nothing.
use Rattle.state.specs.Names.{◌≡◌, List, ◌∷◌, ℕ, zero, suc, ◌+◌, ◌*◌, ◌≤◌, length, get_or, slots, swapped, word_at}
use Rattle.state.proofs.Names.{refl, sym, ◌∙◌, ap, arith, ◌<◌, lane_from}
use Rattle.std.specs.Array.{IsFromFnResult, IsFromFnResultFrom}
use Rattle.std.specs.Fn.{Called}
use denote.Param.Members.{Mut}
use mathlib.Core.Path.{subst}
use native.Mathlib.Decide.{dec_le}
use Rattle.std.specs.Prelude.{map}
use Rattle.std.specs.List.{range_with_len}
use Rattle.std.proofs.lemmas.List.FromFn.{fill_by_all}

-- an array that a function makes has at each index what every call of it gives
made_by : {F : Type 0} {g : Mut F (ℕ × Unit {0}) ℕ} {f : F} (h : ℕ → ℕ) (ys : List ℕ) (i n : ℕ) → IsFromFnResultFrom g f ys i n
    → ((k y : ℕ) (q : F) → Called g f (k, tt) y q → (q ≡ f) × (y ≡ h k)) → (j : ℕ) → i ≤ j → j < i + n → get_or ys j 0 ≡ h j
made_by h ys i zero r step j a b = absurd (omega arith)
made_by {F} {g} {f} h ys i (suc n) r step j a b =
    let s = step i r.1 r.0 r.3 in
    elim (dec_le (i + 1) j) [
      | yes k ↦ made_by {f = f} h ys (i + 1) n (subst (λ (p : F). IsFromFnResultFrom g p ys (i + 1) n) s.0 r.4) step j k (omega arith)
      | no k ↦ let e : j ≡ i = omega arith in ap (λ m. get_or ys m 0) e ∙ r.2.1 0 ∙ s.1 ∙ ap h (sym e)
    ]

pub made_all : {F : Type 0} {g : Mut F (ℕ × Unit {0}) ℕ} {f : F} (h : ℕ → ℕ) {ys : List ℕ} {n : ℕ} → IsFromFnResult g f ys n
    → ((k y : ℕ) (q : F) → Called g f (k, tt) y q → (q ≡ f) × (y ≡ h k)) → (j : ℕ) → j < n → get_or ys j 0 ≡ h j
made_all {F} {g} {f} h {ys} {n} r step j b = made_by {f = f} h ys 0 n r.each step j (omega arith) (omega arith)

abbrev pub slot_word : List ℕ → ℕ → ℕ → ℕ
slot_word s at k = swapped (word_at s (at + 8 * k))

lane_is : (s : List ℕ) (at i n : ℕ) → lane_from s at i n ≡ map (slot_word s at) (range_with_len i n)
unfolding lane_from
lane_is s at i zero = refl
lane_is s at i (suc n) = ap (λ (l : List ℕ). slot_word s at i ∷ l) (lane_is s at (i + 1) n)

pub lane_made : (s lane : List ℕ) (at : ℕ) → length lane ≡ slots → ((k : ℕ) → k < slots → get_or lane k 0 ≡ swapped (word_at s (at + 8 * k)))
    → lane ≡ lane_from s at 0 slots
lane_made s lane at long each = fill_by_all (slot_word s at) lane slots 0 long each ∙ sym (lane_is s at 0 slots)
