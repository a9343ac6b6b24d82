-- What a look at a run of words finds, run by run. Assumes nothing.
use Rattle.std.proofs.Common.{Ok, Err}
use Rattle.audit.specs.Names.{◌≡◌, true, false, not, List, ℕ, suc, ◌+◌, ◌-◌, ◌*◌, ◌/◌, ◌%◌, ◌<◌, ◌≤◌, length, Table, second_of}
use Rattle.audit.proofs.Names.{refl, sym, ap, ap₂, ◌∙◌, subst, arith, dec_le, length-append, table_word, taken, taken_at, broken, table_pages, InRun}
use Rattle.audit.proofs.Names.{all_are, PageCount, Scanned, BrokenOver, Grouped}
use Rattle.audit.proofs.Sizes.{coarse_sizes, fine_sizes, fine_large}
use native.Mathlib.Nat.{le_refl, suc-mul}
use Rattle.audit.proofs.Equal.{group_start, equal-unbroken, single_unbroken, headless}
use Rattle.audit.proofs.Counts.{word_first, word_count_lem, pages-one, pages-append, pages-most, group_pages}

-- what holds of each word of a run and of the next one
pub in_both : (P : ℕ → Type 0) (j n m : ℕ) → InRun j n P → InRun (j + n) m P → InRun j (n + m) P
in_both P j n m f g k h l = elim (dec_le (j + n) k) [
  | yes q ↦ g k q (omega arith)
  | no q ↦ f k h (omega arith)
]

module _ (t : Table) (l : List ℕ) (o : ℕ) where
  -- no words
  pub scanned_none : (j : ℕ) → Scanned t l o j 0 (Ok 0)
  unfolding table_pages
  scanned_none j = (λ k h g. absurd (omega arith), λ i. refl)

  pub count-more : (j n m c d : ℕ) → PageCount t l o j n c → PageCount t l o (j + n) m d → PageCount t l o j (n + m) (c + d)
  count-more j n m c d f g i =
      ap length (pages-append t l o i n j m)
      ∙ length-append (table_pages t l o i j n) (table_pages t l o i (j + n) m)
      ∙ ap₂ (λ (a b : ℕ). a + b) (f i) (g i)

  -- a run behind one that has pages alone
  pub scanned_more : (j n m at c d : ℕ) → at ≡ j + n → Scanned t l o j n (Ok c) → Scanned t l o at m (Ok d) → Scanned t l o j (n + m) (Ok (c + d))
  scanned_more j n m at c d e f g =
      let h = subst (λ (k : ℕ). Scanned t l o k m (Ok d)) e g in
      (in_both (λ k. broken t l o k ≡ false) j n m f.0 h.0, count-more j n m c d f.1 h.1)

  pub scanned_stop : (j n m N at c b : ℕ) → at ≡ j + n → n + m ≤ N → Scanned t l o j n (Ok c) → Scanned t l o at m (Err b) → Scanned t l o j N (Err b)
  scanned_stop j n m N at c b e h f g =
      let lo = g.0 in
      let hi = g.1 in (
        omega arith,
        omega arith,
        (λ k p q.
            in_both (λ k. broken t l o k ≡ false) j n (b - (j + n)) f.0 (λ i u v. g.2 i (omega arith) (omega arith)) k p (omega arith)),
        g.3,
      )

  -- a word that takes a word at most
  pub scanned_word : (k : ℕ) → taken_at t l o k ≤ 1 → Scanned t l o k 1 (Ok (taken_at t l o k))
  scanned_word k h = (
    (λ x p q. subst (λ (y : ℕ). broken t l o y ≡ false) (let z : k ≡ x = omega arith in z) (single_unbroken t l o k h)),
    (λ i. ap length (pages-one t l o i k) ∙ word_count_lem t i k (second_of t (table_word l o k)) h),
  )

  -- words of which each takes a word at most
  pub scanned_singles : (j n c : ℕ) → InRun j n (λ k. taken_at t l o k ≤ 1) → PageCount t l o j n c → Scanned t l o j n (Ok c)
  scanned_singles j n c f g = ((λ k p q. single_unbroken t l o k (f k p q)), g)

  module _ (j n : ℕ) (some : 0 < n) (aligned : j % n ≡ 0) where
    -- a group that is one page
    pub scanned_group : taken_at t l o j ≡ n → InRun j n (λ k. table_word l o k ≡ table_word l o j) → Scanned t l o j n (Ok 1)
    scanned_group e f =
        let all : InRun j n (λ k. taken_at t l o k ≡ n) = λ k p q. ap (λ (w : ℕ). taken t (second_of t w)) (f k p q) ∙ e in (
          (λ k p q.
              let at : k / taken_at t l o k * taken_at t l o k ≡ j = ap (λ (x : ℕ). k / x * x) (all k p q) ∙ group_start n j k some aligned p q in
              equal-unbroken t l o k
              (λ x u v. f x (omega arith) (omega (arith, all k p q)) ∙ sym (f k p q))),
          (λ i.
              ap length (group_pages t l o i n j some aligned all)
              ∙ ap length (pages-one t l o i j)
              ∙ word_first t i j (second_of t (table_word l o j)) (omega (arith, e)) (ap (λ (x : ℕ). j % x) e ∙ aligned)),
        )

    -- where its first word takes other words, a page that takes the group is broken
    pub other_head : (taken_at t l o j ≡ n → ⊥) → InRun j n (λ k. taken_at t l o k ≡ n → broken t l o k ≡ true)
    other_head odd k p q e =
        let at : k / taken_at t l o k * taken_at t l o k ≡ j = ap (λ (x : ℕ). k / x * x) e ∙ group_start n j k some aligned p q in
        headless t l o k (omega (arith, e)) (λ f. odd (ap (taken_at t l o) (sym at) ∙ f ∙ e))

    -- where it takes the group and the words are not all equal, it is itself broken
    pub broken_head : taken_at t l o j ≡ n → all_are l o (table_word l o j) j n ≡ false → Scanned t l o j n (Err j)
    unfolding broken
    broken_head e f = (
      le_refl j,
      omega arith,
      (λ k p q. absurd (omega arith)),
      ap (λ (x : ℕ). not (all_are l o (table_word l o j) (j / x * x) x)) e
          ∙ ap (λ (x : ℕ). not (all_are l o (table_word l o j) x n)) (group_start n j j some aligned (le_refl j) (omega arith))
          ∙ ap not f,
    )

  -- a tally of words, word by word
  pub tally-none : (j : ℕ) → InRun j 0 (λ k. taken_at t l o k ≤ 1) × PageCount t l o j 0 0
  tally-none j = ((λ k h g. absurd (omega arith)), (scanned_none j).1)

  pub tally-more : (j k c x : ℕ) → InRun j k (λ i. taken_at t l o i ≤ 1) × PageCount t l o j k c → taken_at t l o (j + k) ≡ x → x ≤ 1
      → InRun j (k + 1) (λ i. taken_at t l o i ≤ 1) × PageCount t l o j (k + 1) (c + x)
  tally-more j k c x f e h =
      let one : taken_at t l o (j + k) ≤ 1 = omega arith in (
        in_both (λ i. taken_at t l o i ≤ 1) j k 1 f.0 (λ i p q. subst (λ (y : ℕ). taken_at t l o y ≤ 1) (let z : j + k ≡ i = omega arith in z) one),
        subst (λ (y : ℕ). PageCount t l o j (k + 1) (c + y)) e (count-more j k 1 c (taken_at t l o (j + k)) f.1 (scanned_word (j + k) one).1),
      )

  -- as many pages as words at most
  pub count_most : (j n c : ℕ) → PageCount t l o j n c → c ≤ n
  count_most j n c f = omega (arith, f 0, pages-most t l o 0 n j)

-- in a group, a page that takes more than a word is broken, where the first word does not take the group
pub singles_broken : (t : Table) (l : List ℕ) (o j n : ℕ) → Grouped t l o j n → (taken_at t l o j ≡ n → ⊥) → BrokenOver t l o j n 1
singles_broken t l o j n g odd k p q h = elim (dec_le (taken_at t l o k) n) [
  | yes e ↦ other_head t l o j n g.some g.aligned odd k p q (omega (arith, g.least (table_word l o k) h))
  | no e ↦ g.more k p q (omega arith)
]

-- the groups of a coarse table, and those of small pages in a fine one
pub coarse_grouped : (l : List ℕ) (o j : ℕ) → o + 4 * (j + 16) ≤ length l → j % 16 ≡ 0 → Grouped Table.Coarse l o j 16
coarse_grouped l o j h e = record {
  room = h;
  some = omega arith;
  few = omega arith;
  aligned = e;
  least = λ w. coarse_sizes w (λ r. 1 < r → 16 ≤ r) (λ g. omega arith) (λ g. omega arith) (λ g. omega arith);
  more = λ k p q g. absurd (omega (arith, g, coarse_sizes (table_word l o k) (λ r. r ≤ 16) (omega arith) (omega arith) (omega arith)));
}

pub small_grouped : (l : List ℕ) (o j : ℕ) → o + 4 * (j + 4) ≤ length l → j % 4 ≡ 0 → BrokenOver Table.Fine l o j 4 4 → Grouped Table.Fine l o j 4
small_grouped l o j h e f = record {
  room = h;
  some = omega arith;
  few = omega arith;
  aligned = e;
  least = λ w. fine_sizes w (λ r. 1 < r → 4 ≤ r) (λ g. omega arith) (λ g. omega arith) (λ g. omega arith) (λ g. omega arith);
  more = f;
}

-- where a large page's group is none, each large page in it is broken
pub large_broken : (l : List ℕ) (o j : ℕ) → j % 64 ≡ 0 → (taken_at Table.Fine l o j ≡ 64 → ⊥) → BrokenOver Table.Fine l o j 64 4
large_broken l o j e odd k p q h = other_head Table.Fine l o j 64 (omega arith) e odd k p q (fine_large (table_word l o k) h)

pub groups_next : (g n : ℕ) → g * n + n ≡ (g + 1) * n
groups_next g n = sym (ap (λ (m : ℕ). m * n) (let z : g + 1 ≡ suc g = omega arith in z) ∙ suc-mul g n)
