-- The pages of a run of words. Assumes nothing.
use Rattle.std.proofs.Common.{Result, Ok, Err}
use Rattle.walk.specs.declared.Unfound.{Unfound}
use Rattle.walk.specs.declared.Page.{Page}
use Rattle.audit.specs.Names.{◌≡◌, List, [], ◌++◌, ℕ, zero, suc, ◌+◌, ◌-◌, ◌%◌, ◌<◌, ◌≤◌, length, Table, Mapping, second_of, word_bits}
use Rattle.audit.proofs.Names.{refl, sym, ap, ap₂, ◌∙◌, arith, dec_le, eq-eqb, ne_eqb, pick_yes, pick_no, length-append, table_word, taken, taken_at}
use Rattle.audit.proofs.Names.{word_pages, table_pages, InRun}
use mathlib.Core.List.{append_assoc, append-nil}
use native.Mathlib.Nat.{mod-one}
use lib.Dec.{lit≤}
use lib.Pow.{pow_pos}
use Rattle.page.proofs.Picks.{pick_by}
use Rattle.page.specs.Words.{low_bits}
use Rattle.audit.proofs.Equal.{group_place}

-- one word: at most a page; none where it says none, or is not the first of the page's words
module _ (t : Table) (i k : ℕ) where
  word-most : (f : Result Page Unfound) → length (word_pages t i k f) ≤ 1
  word-most (Ok p) = pick_by (λ (ms : List Mapping). length ms ≤ 1) _ _ _ (λ _. lit≤ tt) (λ _. lit≤ tt)
  word-most (Err Unfound.NoPage) = lit≤ tt
  word-most (Err Unfound.Missing) = lit≤ tt

  pub word_none : (f : Result Page Unfound) → taken t f ≡ 0 → word_pages t i k f ≡ []
  word_none (Ok p) e = absurd (omega (arith, e, pow_pos (low_bits p.kind - word_bits t)))
  word_none (Err Unfound.NoPage) e = refl
  word_none (Err Unfound.Missing) e = refl

  pub word_later : (f : Result Page Unfound) → (k % taken t f ≡ 0 → ⊥) → word_pages t i k f ≡ []
  word_later (Ok p) h = pick_no _ _ _ (ne_eqb _ _ h)
  word_later (Err Unfound.NoPage) h = refl
  word_later (Err Unfound.Missing) h = refl

  pub word_first : (f : Result Page Unfound) → 0 < taken t f → k % taken t f ≡ 0 → length (word_pages t i k f) ≡ 1
  word_first (Ok p) h e = ap length (pick_yes _ _ _ (eq-eqb _ _ e))
  word_first (Err Unfound.NoPage) h e = absurd (omega arith)
  word_first (Err Unfound.Missing) h e = absurd (omega arith)

  -- a page that takes a word counts for one, and none for none
  pub word_count_lem : (f : Result Page Unfound) → taken t f ≤ 1 → length (word_pages t i k f) ≡ taken t f
  word_count_lem f h = elim (dec_le 1 (taken t f)) [
    | yes g ↦ let one : taken t f ≡ 1 = omega arith in word_first f (omega arith) (ap (λ (n : ℕ). k % n) one ∙ mod-one k) ∙ sym one
    | no g ↦ let none : taken t f ≡ 0 = omega arith in ap length (word_none f none) ∙ sym none
  ]

module _ (t : Table) (l : List ℕ) (o i : ℕ) where
  abbrev here : ℕ → List Mapping
  here k = word_pages t i k (second_of t (table_word l o k))

  pub pages-one : (k : ℕ) → table_pages t l o i k 1 ≡ word_pages t i k (second_of t (table_word l o k))
  unfolding table_pages
  pages-one k = append-nil (here k)

  -- a run behind a run
  pub pages-append : (n j m : ℕ) → table_pages t l o i j (n + m) ≡ table_pages t l o i j n ++ table_pages t l o i (j + n) m
  unfolding table_pages
  pages-append zero j m = ap₂ (λ (a b : ℕ). table_pages t l o i a b) (let z : j ≡ j + 0 = omega arith in z) (let z : 0 + m ≡ m = omega arith in z)
  pages-append (suc n) j m =
      ap (table_pages t l o i j) (let z : suc n + m ≡ suc (n + m) = omega arith in z)
      ∙ ap (λ (x : List Mapping). here j ++ x) (pages-append n (suc j) m)
      ∙ sym (append_assoc (here j) (table_pages t l o i (suc j) n) (table_pages t l o i (suc j + n) m))
      ∙ ap (λ (a : ℕ). (here j ++ table_pages t l o i (suc j) n) ++ table_pages t l o i a m) (let z : suc j + n ≡ j + suc n = omega arith in z)

  pub pages-most : (n j : ℕ) → length (table_pages t l o i j n) ≤ n
  unfolding table_pages
  pages-most zero j = lit≤ tt
  pages-most (suc n) j =
      omega (arith, length-append (here j) (table_pages t l o i (suc j) n), word-most t i j (second_of t (table_word l o j)), pages-most n (suc j))

  -- words that list nothing
  pub pages-none : (n j : ℕ) → InRun j n (λ k. word_pages t i k (second_of t (table_word l o k)) ≡ []) → table_pages t l o i j n ≡ []
  unfolding table_pages
  pages-none zero j f = refl
  pages-none (suc n) j f = ap₂ (λ (a b : List Mapping). a ++ b) (f j (omega arith) (omega arith)) (pages-none n (suc j) (λ k h g. f k (omega arith) (omega arith)))

  -- a group that is one page lists it at its first word
  pub group_pages : (n j : ℕ) → 0 < n → j % n ≡ 0 → InRun j n (λ k. taken_at t l o k ≡ n) → table_pages t l o i j n ≡ table_pages t l o i j 1
  group_pages n j some aligned f =
      ap (table_pages t l o i j) (let z : n ≡ 1 + (n - 1) = omega arith in z)
      ∙ pages-append 1 j (n - 1)
      ∙ ap (λ (x : List Mapping). table_pages t l o i j 1 ++ x)
      (pages-none (n - 1) (j + 1)
      (λ k h g.
      word_later t i k (second_of t (table_word l o k))
      (λ e.
      let p : k % n ≡ k - j = group_place n j k some aligned (omega arith) (omega arith) in
      let q : k % n ≡ 0 = ap (λ (x : ℕ). k % x) (sym (f k (omega arith) (omega arith))) ∙ e in
      omega arith)))
      ∙ append-nil (table_pages t l o i j 1)
