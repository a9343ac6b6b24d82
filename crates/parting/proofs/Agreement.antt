-- Words that agree, and the bytes that they are. Assumes nothing.
use Rattle.parting.specs.Names.{◌≡◌, false, true, not, List, ℕ, zero, suc, ◌+◌, ◌*◌, ◌<◌, ◌≤◌, length, take, drop, Bytes, word_at}
use Rattle.parting.proofs.Names.{refl, sym, ap, ap₂, subst, ◌∙◌, arith, pick_by, pick_no, not-false, eq-eqb, differs_at, differing, first_differing}
use borrow.Author.Tests.{eqb-true}
use mathlib.Core.List.{◌++◌}
use native.Mathlib.Decide.{dec_le}
use lib.ListN.{length-drop, take-append-drop}
use lib.Seq.{drop-append-le, length-take-le, take-add, take-append-le}
use Rattle.wire.specs.Words.{word_of}
use Rattle.wire.proofs.Reading.{bytes_drop, bytes_take, four_long, same_bytes_lem}
use Rattle.parting.proofs.Counting.{counts_none}

module _ (a b : List ℕ) where
  -- every word of a run agrees
  abbrev pub Agree : ℕ → ℕ → Type 0
  Agree k n = (j : ℕ) → k ≤ j → j < n → differs_at a b j ≡ false

  -- the words before the first that differs agree, and it differs where it is not behind them
  pub agree-before : (k n : ℕ) → Agree k (first_differing a b k n)
  unfolding first_differing
  agree-before k zero = λ j g h. absurd (omega arith)
  agree-before k (suc n) =
      pick_by (λ (m : ℕ). Agree k m) (differs_at a b k) _ _
      (λ _ j g h. absurd (omega arith))
      (λ e j g h. elim (dec_le (suc k) j) [
        | yes x ↦ agree-before (suc k) n j x h
        | no x ↦ subst (λ (i : ℕ). differs_at a b i ≡ false) (let z : k ≡ j = omega arith in z) e
      ])

  pub differs_first : (k n : ℕ) → first_differing a b k n < k + n → differs_at a b (first_differing a b k n) ≡ true
  unfolding first_differing
  differs_first k zero = λ h. absurd (omega arith)
  differs_first k (suc n) =
      pick_by (λ (m : ℕ). m < k + suc n → differs_at a b m ≡ true) (differs_at a b k) _ _
      (λ e _. e)
      (λ _ h. differs_first (suc k) n (omega arith))

  pub first-behind-all : (k n : ℕ) → Agree k (k + n) → first_differing a b k n ≡ k + n
  unfolding first_differing
  first-behind-all k zero h = omega arith
  first-behind-all k (suc n) h =
      pick_no _ _ _ (h k (omega arith) (omega arith)) ∙ first-behind-all (suc k) n (λ j p q. h j (omega arith) (omega arith)) ∙ omega arith

  -- no word differs where each agrees, and the other way round
  pub none-agree : (n : ℕ) → differing a b n ≡ 0 → Agree 0 n
  unfolding differing
  none-agree zero e j g h = absurd (omega arith)
  none-agree (suc n) e j g h = elim (dec_le n j) [
    | yes x ↦ subst (λ (i : ℕ). differs_at a b i ≡ false) (let z : n ≡ j = omega arith in z) (counts_none (differs_at a b n) (omega arith))
    | no x ↦ none-agree n (omega arith) j g (omega arith)
  ]

  pub agree-none : (n : ℕ) → Agree 0 n → differing a b n ≡ 0
  unfolding differing
  agree-none zero h = refl
  agree-none (suc n) h =
      ap₂ ◌+◌ (agree-none n (λ j g p. h j g (omega arith))) (pick_no _ _ _ (h n (omega arith) (omega arith)))

  -- words that agree are the same bytes
  module _ (p : Bytes a) (q : Bytes b) where
    word_bytes_lem : (k : ℕ) → 4 * k + 4 ≤ length a → 4 * k + 4 ≤ length b → differs_at a b k ≡ false → take 4 (drop (4 * k) a) ≡ take 4 (drop (4 * k) b)
    word_bytes_lem k g h e =
        same_bytes_lem _ _ (bytes_take 4 (drop (4 * k) a) (bytes_drop (4 * k) a p)) (bytes_take 4 (drop (4 * k) b) (bytes_drop (4 * k) b q)) (four_long a (4 * k) g) (four_long b (4 * k) h)
        (eqb-true _ _ (not-false _ e))

    pub same_front : (n : ℕ) → 4 * n ≤ length a → 4 * n ≤ length b → Agree 0 n → take (4 * n) a ≡ take (4 * n) b
    same_front zero g h e = refl
    same_front (suc n) g h e =
        let z : 4 * suc n ≡ 4 * n + 4 = omega arith in
        ap (λ (m : ℕ). take m a) z
        ∙ take-add (4 * n) 4 a
        ∙ ap₂ ◌++◌ (same_front n (omega arith) (omega arith) (λ j x y. e j x (omega arith))) (word_bytes_lem n (omega arith) (omega arith) (e n (omega arith) (omega arith)))
        ∙ sym (take-add (4 * n) 4 b)
        ∙ ap (λ (m : ℕ). take m b) (sym z)

-- the words of an image's front are the image's
front_word : (l : List ℕ) (k n : ℕ) → k + 4 ≤ n → n ≤ length l → word_at l k ≡ word_at (take n l) k
front_word l k n g h =
    let m : length (take n l) ≡ n = length-take-le n l h in
    ap word_of
    (ap (λ (s : List ℕ). take 4 (drop k s)) (sym (take-append-drop n l))
    ∙ ap (take 4) (drop-append-le k (take n l) (drop n l) (omega arith))
    ∙ take-append-le 4 (drop k (take n l)) (drop n l) (omega (arith, length-drop k (take n l))))

-- the same bytes have the same words
pub front_agrees : (a b : List ℕ) (n : ℕ) → 4 * n ≤ length a → 4 * n ≤ length b → take (4 * n) a ≡ take (4 * n) b → Agree a b 0 n
front_agrees a b n g h e j _ i =
    ap not
    (eq-eqb _ _
    (front_word a (4 * j) (4 * n) (omega arith) g ∙ ap (λ (l : List ℕ). word_at l (4 * j)) e ∙ sym (front_word b (4 * j) (4 * n) (omega arith) h)))
