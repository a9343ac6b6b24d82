-- Parts of a list, as far as it has them. Assumes nothing.
use Rattle.recording.specs.Names.{◌≡◌, List, [], ◌++◌, ℕ, ◌+◌, ◌-◌, ◌*◌, ◌≤◌, ◌<◌, length, take, drop, min}
use Rattle.recording.proofs.Names.{sym, ◌∙◌, ap, arith, length-drop}
use native.Mathlib.Decide.{dec_le}
use lib.Seq.{take_all, take-append_seam, drop-append_seam, drop-length, drop-drop, drop-nil}

pub drop_past : (l : List ℕ) (n : ℕ) → length l ≤ n → drop n l ≡ []
drop_past l n h =
    ap (λ (k : ℕ). drop k l) (let e : n ≡ length l + (n - length l) = omega arith in e)
    ∙ sym (drop-drop (n - length l) (length l) l)
    ∙ ap (drop (n - length l)) (drop-length l)
    ∙ drop-nil (n - length l)

-- a piece that is cut off the front
pub cut_off : (size : ℕ) (s x left : List ℕ) → s ≡ x ++ left → length x ≡ min size (length s) → (x ≡ take size s) × (left ≡ drop size s)
cut_off size s x left e h =
    let front : x ≡ take (length x) s = sym (ap (take (length x)) e ∙ take-append_seam x left) in
    let back : left ≡ drop (length x) s = sym (ap (drop (length x)) e ∙ drop-append_seam x left) in
    elim (dec_le size (length s)) [
      | yes g ↦ let z : length x ≡ size = omega arith in (front ∙ ap (λ n. take n s) z, back ∙ ap (λ n. drop n s) z)
      | no g ↦
          let z : length x ≡ length s = omega arith in (
            front ∙ ap (λ n. take n s) z ∙ take_all (length s) s (omega arith) ∙ sym (take_all size s (omega arith)),
            back ∙ ap (λ n. drop n s) z ∙ drop_past s (length s) (omega arith) ∙ sym (drop_past s size (omega arith)),
          )
    ]

-- pieces of one size cut off one after another: what is left behind i of them, and piece i
pub record Cutting (size : ℕ) (r rest : List ℕ) (held i : ℕ) : Type 0 where
  pub left : rest ≡ drop (size * i) r
  pub sized : held ≡ size

pub record Cut (size : ℕ) (r x left : List ℕ) (held i : ℕ) : Type 0 where
  pub piece : x ≡ take size (drop (size * i) r)
  pub there : size * i < length r
  pub on : Cutting size r left held (i + 1)

pub cut_next : (size : ℕ) (r rest x left : List ℕ) (held after i : ℕ) → Cutting size r rest held i → after ≡ held
    → (rest ≡ x ++ left) × (length x ≡ min held (length rest)) × (0 < length rest) → Cut size r x left after i
cut_next size r rest x left held after i c a s =
    let p = cut_off size rest x left s.0 (s.1 ∙ ap (λ n. min n (length rest)) c.sized) in
    let at = size * i in
    record {
      piece = p.0 ∙ ap (take size) c.left;
      there = omega (arith, s.2, ap length c.left, length-drop at r);
      on = record {
        left = p.1 ∙ ap (drop size) c.left ∙ drop-drop size at r ∙ ap (λ n. drop n r) (let e : size * i + size ≡ size * (i + 1) = omega arith in e);
        sized = a ∙ c.sized;
      };
    }

pub cut_over : (size : ℕ) (r rest : List ℕ) (held i : ℕ) → Cutting size r rest held i → length rest ≡ 0 → length r ≤ size * i
cut_over size r rest held i c h = omega (arith, h, ap length c.left, length-drop (size * i) r)
