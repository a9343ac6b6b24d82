-- The verdict on an image, word by word. Assumes nothing.
use Rattle.std.proofs.Common.{Result, Ok, Err}
use Rattle.audit.specs.declared.ImageError.{ImageError}
use Rattle.audit.specs.Names.{◌≡◌, Bool, true, false, not, List, [], ◌++◌, ℕ, zero, suc, ◌+◌, ◌-◌, ◌*◌, ◌<◌, ◌≤◌, length, pick, physical, word_at, Table}
use Rattle.audit.specs.Names.{First, first_of, index_limit}
use Rattle.audit.proofs.Names.{refl, sym, ap, ◌∙◌, arith, dec_le, pick_yes, pick_no, length-append, broken, table_pages, first_pages, level_pages, pages_in}
use Rattle.audit.proofs.Names.{words_checked, table_in, table_checked, first_checked, level_checked, Unbroken, Scanned}
use mathlib.Core.Logic.{◌⊎◌, inl, inr}
use Rattle.audit.proofs.Counts.{pages-most}

-- words that are not broken, and the first that is
module _ (t : Table) (l : List ℕ) (base at : ℕ) where
  pub words-good : (n j : ℕ) (rest : Result ℕ ImageError) → Unbroken t l (at - base) j n → words_checked t l base at j n rest ≡ rest
  unfolding words_checked
  words-good zero j rest f = refl
  words-good (suc n) j rest f =
      pick_no _ _ _ (f j (omega arith) (omega arith)) ∙ words-good n (suc j) rest (λ k p q. f k (omega arith) (omega arith))

  pub words-broken : (n j b : ℕ) (rest : Result ℕ ImageError) → j ≤ b → b < j + n → Unbroken t l (at - base) j (b - j) → broken t l (at - base) b ≡ true
      → words_checked t l base at j n rest ≡ Err (ImageError.Unequal (physical (at + 4 * b)))
  unfolding words_checked
  words-broken zero j b rest p q f e = absurd (omega arith)
  words-broken (suc n) j b rest p q f e = elim (dec_le b j) [
    | yes h ↦
        let z : b ≡ j = omega arith in
        pick_yes _ _ _ (ap (broken t l (at - base)) (sym z) ∙ e) ∙ ap (λ (k : ℕ). Err (ImageError.Unequal (physical (at + 4 * k)))) (sym z)
    | no h ↦
        pick_no _ _ _ (f j (omega arith) (omega arith))
        ∙ words-broken n (suc j) b rest (omega arith) (omega arith) (λ k u v. f k (omega arith) (omega arith)) e
  ]

  -- the table, outside or by what a look at its words found
  module _ (i : ℕ) where
    pub table_outside : (rest : Result ℕ ImageError) → table_in base (length l) t at ≡ false → table_checked t l base i at rest ≡ Err (ImageError.Outside (physical (base + 4 * i)))
    unfolding table_checked
    table_outside rest e = pick_yes _ _ _ (ap not e)

    pub table_words_lem : (rest : Result ℕ ImageError) → table_in base (length l) t at ≡ true → table_checked t l base i at rest ≡ words_checked t l base at 0 (index_limit t) rest
    unfolding table_checked
    table_words_lem rest e = pick_no _ _ _ (ap not e)

    pub table_good : (c : ℕ) → table_in base (length l) t at ≡ true → Scanned t l (at - base) 0 (index_limit t) (Ok c)
        → Ok c ≡ table_checked t l base i at (Ok (length (table_pages t l (at - base) i 0 (index_limit t))))
    table_good c e s = ap Ok (sym (s.1 i)) ∙ sym (table_words_lem _ e ∙ words-good (index_limit t) 0 _ s.0)

    pub table_unequal : (b : ℕ) (rest : Result ℕ ImageError) → table_in base (length l) t at ≡ true → Scanned t l (at - base) 0 (index_limit t) (Err b)
        → Err (ImageError.Unequal (physical (at + 4 * b))) ≡ table_checked t l base i at rest
    table_unequal b rest e s = sym (table_words_lem rest e ∙ words-broken (index_limit t) 0 b rest s.0 s.1 s.2 s.3)

-- a check that goes on to what follows, or refuses whatever follows
abbrev pub Splits : (Result ℕ ImageError → Result ℕ ImageError) → Type 0
Splits f = ((rest : Result ℕ ImageError) → f rest ≡ rest) ⊎ ((v : Result ℕ ImageError) × ((n : ℕ) → v ≡ Ok n → ⊥) × ((rest : Result ℕ ImageError) → f rest ≡ v))

pick_splits : (b : Bool) (v : Result ℕ ImageError) (f : Result ℕ ImageError → Result ℕ ImageError) → ((n : ℕ) → v ≡ Ok n → ⊥) → Splits f → Splits (λ rest. pick b v (f rest))
pick_splits true v f odd s = inr (v, odd, λ rest. pick_yes true v (f rest) refl)
pick_splits false v f odd (inl g) = inl (λ rest. pick_no false v (f rest) refl ∙ g rest)
pick_splits false v f odd (inr g) = inr (g.0, g.1, λ rest. pick_no false v (f rest) refl ∙ g.2 rest)

pub err_refuses : (e : ImageError) (n : ℕ) → ◌≡◌ {A = Result ℕ ImageError} (Err e) (Ok n) → ⊥
err_refuses e n h = let z : ◌≡◌ {A = ℕ} 0 1 = cc in omega arith

module _ (l : List ℕ) (base : ℕ) where
  words_splits : (t : Table) (at n j : ℕ) → Splits (words_checked t l base at j n)
  unfolding words_checked
  words_splits t at zero j = inl (λ rest. refl)
  words_splits t at (suc n) j = pick_splits _ _ (words_checked t l base at (suc j) n) (err_refuses _) (words_splits t at n (suc j))

  table_splits : (t : Table) (i at : ℕ) → Splits (table_checked t l base i at)
  unfolding table_checked
  table_splits t i at = pick_splits _ _ (words_checked t l base at 0 (index_limit t)) (err_refuses _) (words_splits t at (index_limit t) 0)

  pub first_splits : (i : ℕ) (d : First) → Splits (first_checked l base i d)
  first_splits i First.Fault = inl (λ rest. refl)
  first_splits i (First.Whole p) = inl (λ rest. refl)
  first_splits i (First.Coarse at) = table_splits Table.Coarse i at.0
  first_splits i (First.Fine at) = table_splits Table.Fine i at.0

good-number : (n m : ℕ) → ◌≡◌ {A = Result ℕ ImageError} (Ok n) (Ok m) → n ≡ m
good-number n m e = cc

-- what a check by itself answers tells what it does with what follows
module _ (f : Result ℕ ImageError → Result ℕ ImageError) (s : Splits f) (k : ℕ) where
  pub goes_on : (n : ℕ) → f (Ok k) ≡ Ok n → ((rest : Result ℕ ImageError) → f rest ≡ rest) × (n ≡ k)
  goes_on n e = by s
    where
      by : Splits f → ((rest : Result ℕ ImageError) → f rest ≡ rest) × (n ≡ k)
      by (inl g) = (g, good-number n k (sym e ∙ g (Ok k)))
      by (inr g) = absurd (g.1 n (sym (g.2 (Ok k)) ∙ e))

  pub stops : (v : Result ℕ ImageError) → ((n : ℕ) → v ≡ Ok n → ⊥) → f (Ok k) ≡ v → (rest : Result ℕ ImageError) → f rest ≡ v
  stops v odd e rest = by s
    where
      by : Splits f → f rest ≡ v
      by (inl g) = absurd (odd k (sym e ∙ g (Ok k)))
      by (inr g) = g.2 rest ∙ sym (g.2 (Ok k)) ∙ e

-- the first level, word by word
module _ (l : List ℕ) (base n i : ℕ) (low : i < n) where
  abbrev d : First
  d = first_of (word_at l (4 * i))

  pub level_next : (rest : Result ℕ ImageError) → level_checked l base i (n - i) rest ≡ first_checked l base i (first_of (word_at l (4 * i))) (level_checked l base (i + 1) (n - (i + 1)) rest)
  unfolding level_checked
  level_next rest =
      ap (λ (m : ℕ). level_checked l base i m rest) (let z : n - i ≡ suc (n - (i + 1)) = omega arith in z)
      ∙ ap (λ (k : ℕ). first_checked l base i d (level_checked l base k (n - (i + 1)) rest)) (let z : suc i ≡ i + 1 = omega arith in z)

  pub level_pages_lem : level_pages l base i (n - i) ≡ first_pages l base i (first_of (word_at l (4 * i))) ++ level_pages l base (i + 1) (n - (i + 1))
  unfolding level_pages
  level_pages_lem =
      ap (level_pages l base i) (let z : n - i ≡ suc (n - (i + 1)) = omega arith in z)
      ∙ ap (λ (k : ℕ). first_pages l base i d ++ level_pages l base k (n - (i + 1))) (let z : suc i ≡ i + 1 = omega arith in z)

  pub level_turn : (k : ℕ) → first_checked l base i (first_of (word_at l (4 * i))) (Ok (length (first_pages l base i (first_of (word_at l (4 * i)))))) ≡ Ok k
      → ((rest : Result ℕ ImageError) → level_checked l base i (n - i) rest ≡ level_checked l base (i + 1) (n - (i + 1)) rest)
      × (length (level_pages l base i (n - i)) ≡ k + length (level_pages l base (i + 1) (n - (i + 1))))
  level_turn k e =
      let g = goes_on (first_checked l base i d) (first_splits l base i d) (length (first_pages l base i d)) k e in (
        (λ rest. level_next rest ∙ g.0 _),
        ap length level_pages_lem ∙ length-append (first_pages l base i d) (level_pages l base (i + 1) (n - (i + 1))) ∙ ap
            (λ (x : ℕ). x + length (level_pages l base (i + 1) (n - (i + 1)))) (sym g.1),
      )

  pub level-stop : (v : Result ℕ ImageError) → ((m : ℕ) → v ≡ Ok m → ⊥)
      → first_checked l base i (first_of (word_at l (4 * i))) (Ok (length (first_pages l base i (first_of (word_at l (4 * i)))))) ≡ v → (rest : Result ℕ ImageError)
      → level_checked l base i (n - i) rest ≡ v
  level-stop v odd e rest = level_next rest ∙ stops (first_checked l base i d) (first_splits l base i d) (length (first_pages l base i d)) v odd e _

-- a first-level word lists a section, or the pages of a table
pub first-most : (l : List ℕ) (base i : ℕ) (d : First) → length (first_pages l base i d) ≤ 1024
first-most l base i First.Fault = omega arith
first-most l base i (First.Whole p) = omega arith
first-most l base i (First.Coarse at) = omega (arith, pages-most Table.Coarse l (at.0 - base) i 256 0)
first-most l base i (First.Fine at) = pages-most Table.Fine l (at.0 - base) i 1024 0

pub level-end : (l : List ℕ) (base n i : ℕ) → n ≤ i → (rest : Result ℕ ImageError) → level_checked l base i (n - i) rest ≡ rest
unfolding level_checked
level-end l base n i h rest = ap (λ (m : ℕ). level_checked l base i m rest) (let z : n - i ≡ 0 = omega arith in z)

pub pages-end : (l : List ℕ) (base n i : ℕ) → n ≤ i → level_pages l base i (n - i) ≡ []
unfolding level_pages
pages-end l base n i h = ap (level_pages l base i) (let z : n - i ≡ 0 = omega arith in z)

-- what the code's look at a first-level word found
module _ (l : List ℕ) (base i : ℕ) where
  abbrev said : First
  said = first_of (word_at l (4 * i))

  pub first_good : (k : ℕ) → first_checked l base i (first_of (word_at l (4 * i))) (Ok (length (first_pages l base i (first_of (word_at l (4 * i)))))) ≡ Ok k → k ≤ 1024
  first_good k e =
      let g = goes_on (first_checked l base i said) (first_splits l base i said) (length (first_pages l base i said)) k e in
      omega (arith, g.1, first-most l base i said)

-- an image has 1,024 pages for each first-level word at most
few-from : (l : List ℕ) (base n i : ℕ) → length (level_pages l base i n) ≤ 1024 * n
unfolding level_pages
few-from l base zero i = omega arith
few-from l base (suc n) i =
    omega (arith, length-append (first_pages l base i (first_of (word_at l (4 * i)))) (level_pages l base (suc i) n), first-most l base i (first_of (word_at l (4 * i))), few-from l base n (suc i))

pub pages-few : (l : List ℕ) (base n : ℕ) → length (pages_in n l base) ≤ 1024 * n
pages-few l base n = few-from l base n 0
