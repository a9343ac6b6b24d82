-- Records put into a lent list, run by run. Assumes nothing.
use Rattle.std.proofs.Common.{Ok}
use Rattle.walk.specs.declared.Unfound.{Unfound}
use Rattle.audit.specs.declared.ListError.{ListError}
use Rattle.std.proofs.Common.{Result}
use Rattle.audit.specs.declared.ImageError.{ImageError}
use Rattle.audit.specs.Names.{◌≡◌, List, [], ◌∷◌, ◌++◌, ℕ, ◌+◌, ◌-◌, ◌*◌, ◌/◌, ◌%◌, ◌^◌, ◌<◌, ◌≤◌, length, pasted, records_of}
use Rattle.audit.specs.Names.{zero, suc, drop, Mapping, Table, Page, First, first_of, second_of, word_bits, word_at, index_limit, megabytes}
use Rattle.audit.proofs.Names.{refl, sym, ap, ap₂, ◌∙◌, subst, true≢false, arith, dec_le, eq-eqb, pick_yes, length-append, table_word, taken, taken_at}
use Rattle.audit.proofs.Names.{page_mapping, word_pages, table_pages, first_pages, level_pages, pages_in, InRun, Unbroken, Put, Fits, Listable, GroupListable}
use Rattle.audit.proofs.Names.{TableListable, check_of, inventory_of, inventory_left, inventoried, list_of}
use mathlib.Core.List.{append_assoc, append-nil}
use lib.Pow.{pow_pos}
use Rattle.page.specs.Words.{low_bits}
use Rattle.wire.proofs.Pastes.{pasted-none, pasted_then, pasted_length}
use Rattle.records.proofs.Records.{records-append, records-length}
use Rattle.audit.proofs.Equal.{group_start, unbroken-equal}
use Rattle.audit.proofs.Counts.{pages-one, pages-append, pages-none, group_pages, word_none}
use Rattle.audit.proofs.Scans.{other_head}
use Rattle.audit.proofs.Inside.{inside-from, inside_to}
use Rattle.audit.proofs.Sizes.{takes_none, coarse_sizes, fine_sizes, fine_large}

-- no mappings
pub put_none : (at : ℕ) (l : List ℕ) → Put [] at l at l
unfolding records_of
put_none at l = (omega arith, sym (pasted-none l at))

pub put_same : (ms ns : List Mapping) (at r : ℕ) (l m : List ℕ) → ms ≡ ns → Put ms at l r m → Put ns at l r m
put_same ms ns at r l m e p = subst (λ (x : List Mapping). Put x at l r m) e p

-- mappings behind mappings
pub put_more : (ms ns : List Mapping) (at r s : ℕ) (l m n : List ℕ) → Fits (ms ++ ns) at (length l) → Put ms at l r m → Put ns r m s n → Put (ms ++ ns) at l s n
put_more ms ns at r s l m n h p q =
    let len = length-append ms ns in
    let k = records-length ms in (
      omega (arith, p.0, q.0),
      q.1
          ∙ ap₂ (λ (x : List ℕ) (i : ℕ). pasted x i (records_of ns)) p.1 (let z : r ≡ at + length (records_of ms) = omega (arith, p.0) in z)
          ∙ pasted_then l at (records_of ms) (omega arith) (records_of ns)
          ∙ ap (pasted l at) (sym (records-append ms ns)),
    )

pub put_length : (ms : List Mapping) (at r : ℕ) (l m : List ℕ) → Fits ms at (length l) → Put ms at l r m → length m ≡ length l
put_length ms at r l m h p = ap length p.1 ∙ pasted_length l at (records_of ms) (omega (arith, records-length ms))

module _ (t : Table) (l : List ℕ) (o i j n from : ℕ) (out : List ℕ) (h : Listable t l o i j n from (length out)) where
  -- a run within the run
  pub listable_next : (k w b at : ℕ) (m : List ℕ) → b ≡ j + k → k + w ≤ n → Put (table_pages t l o i j k) from out at m → Listable t l o i b w at (length m)
  listable_next k w b at m e f p =
      let s : table_pages t l o i j n ≡ (table_pages t l o i j k ++ table_pages t l o i (j + k) w) ++ table_pages t l o i (j + (k + w)) (n - (k + w)) =
      ap (table_pages t l o i j) (let z : n ≡ k + w + (n - (k + w)) = omega arith in z) ∙ pages-append t l o i (k + w) j (n - (k + w))
      ∙ ap (λ (x : List Mapping). x ++ table_pages t l o i (j + (k + w)) (n - (k + w))) (pages-append t l o i k j w) in
      let a = length-append (table_pages t l o i j k ++ table_pages t l o i (j + k) w) (table_pages t l o i (j + (k + w)) (n - (k + w))) in
      let c = length-append (table_pages t l o i j k) (table_pages t l o i (j + k) w) in
      let d = ap length s in
      let r = h.records in
      let y : length m ≡ length out = put_length (table_pages t l o i j k) from at out m (omega arith) p in
      record {
        words = omega (arith, h.words);
        index = omega (arith, h.index);
        megabyte = h.megabyte;
        unbroken = λ x u v. h.unbroken x (omega arith) (omega arith);
        records = subst (λ (x : ℕ). Fits (table_pages t l o i x w) at (length m)) (sym e) (omega (arith, p.0));
      }

  -- and what is put then
  pub put_next : (k w b at s : ℕ) (m x : List ℕ) → b ≡ j + k → k + w ≤ n → Put (table_pages t l o i j k) from out at m → Put (table_pages t l o i b w) at m s x
      → Put (table_pages t l o i j (k + w)) from out s x
  put_next k w b at s m x e f p q =
      let sum : table_pages t l o i j (k + w) ≡ table_pages t l o i j k ++ table_pages t l o i (j + k) w = pages-append t l o i k j w in
      let whole : table_pages t l o i j n ≡ table_pages t l o i j (k + w) ++ table_pages t l o i (j + (k + w)) (n - (k + w)) =
      ap (table_pages t l o i j) (let z : n ≡ k + w + (n - (k + w)) = omega arith in z) ∙ pages-append t l o i (k + w) j (n - (k + w)) in
      let a = length-append (table_pages t l o i j (k + w)) (table_pages t l o i (j + (k + w)) (n - (k + w))) in
      let d = ap length whole in
      let c = ap length sum in
      put_same _ _ from s out x (sym sum)
      (put_more (table_pages t l o i j k) (table_pages t l o i (j + k) w) from at s out m x (omega (arith, h.records)) p
      (subst (λ (y : ℕ). Put (table_pages t l o i y w) at m s x) e q))

-- a run of no words is put
pub put_first : (t : Table) (l : List ℕ) (o i j at : ℕ) (out : List ℕ) → Put (table_pages t l o i j 0) at out at out
unfolding table_pages
put_first t l o i j at out = put_none at out

module _ (t : Table) (l : List ℕ) (o i j : ℕ) where
  -- a word's page, or none
  pub page-listed : (p : Page) (va : ℕ) → second_of t (table_word l o j) ≡ Ok p → (0 < taken_at t l o j → j % taken_at t l o j ≡ 0) → va ≡ i * 2 ^ 20 + j * 2 ^ word_bits t
      → table_pages t l o i j 1 ≡ page_mapping va p ∷ []
  page-listed p va e f g =
      let r : taken_at t l o j ≡ taken t (Ok p) = ap (taken t) e in
      pages-one t l o i j
      ∙ ap (word_pages t i j) e
      ∙ pick_yes _ _ _ (eq-eqb _ _ (ap (λ (n : ℕ). j % n) (sym r) ∙ f (subst (λ (n : ℕ). 0 < n) (sym r) (pow_pos (low_bits p.kind - word_bits t)))))
      ∙ ap (λ (x : ℕ). page_mapping x p ∷ []) (sym g)

  pub none-listed : (f : Result Page Unfound) → second_of t (table_word l o j) ≡ f → taken t f ≡ 0 → table_pages t l o i j 1 ≡ []
  none-listed f e z = pages-one t l o i j ∙ ap (word_pages t i j) e ∙ word_none t i j f z

  -- faults list nothing
  pub vacant_pages : (n : ℕ) → InRun j n (λ k. table_word l o k % 4 ≡ 0) → table_pages t l o i j n ≡ []
  vacant_pages n f = pages-none t l o i n j (λ k p q. word_none t i k (second_of t (table_word l o k)) (takes_none t (table_word l o k) (f k p q)))

  module _ (n : ℕ) (some : 0 < n) (aligned : j % n ≡ 0) (whole : Unbroken t l o j n) where
    -- a group whose first word takes it is that word's page
    pub group_listed : taken_at t l o j ≡ n → table_pages t l o i j n ≡ table_pages t l o i j 1
    group_listed e =
        group_pages t l o i n j some aligned
        (λ k p q.
        ap (λ (w : ℕ). taken t (second_of t w))
        (unbroken-equal t l o j (whole j (omega arith) (omega arith)) k (omega (arith, start j (omega arith) (omega arith))) (omega (arith, start j (omega arith) (omega arith), e)))
        ∙ e)
      where
        start : (k : ℕ) → j ≤ k → k < j + n → k / taken_at t l o j * taken_at t l o j ≡ j
        start k p q = ap (λ (x : ℕ). k / x * x) e ∙ group_start n j k some aligned p q

    -- where it does not, no word takes the group
    pub no_group : (taken_at t l o j ≡ n → ⊥) → InRun j n (λ k. taken_at t l o k ≡ n → ⊥)
    no_group odd k p q e = true≢false (sym (other_head t l o j n some aligned odd k p q e) ∙ whole k p q)

-- a group whose first word takes fewer words is one of single words
pub group_singles : (t : Table) (l : List ℕ) (o i j n at room : ℕ) → GroupListable t l o i j n at room → (taken_at t l o j ≡ n → ⊥) → InRun j n (λ k. taken_at t l o k ≤ 1)
group_singles t l o i j n at room g odd k p q = elim (dec_le (taken_at t l o k) 1) [
  | yes h ↦ h
  | no h ↦ absurd (no_group t l o i j n g.some g.aligned g.run.unbroken odd k p q (g.only k p q (omega arith)))
]

-- the groups of a coarse table, and those of small pages in a fine one
pub coarse_listable : (l : List ℕ) (o i j at room : ℕ) → j % 16 ≡ 0 → Listable Table.Coarse l o i j 16 at room → GroupListable Table.Coarse l o i j 16 at room
coarse_listable l o i j at room e h = record {
  some = omega arith;
  aligned = e;
  only = λ k p q. coarse_sizes (table_word l o k) (λ r. 1 < r → r ≡ 16) (λ g. absurd (omega arith)) (λ g. absurd (omega arith)) (λ g. refl);
  run = h;
}

pub small_listable : (l : List ℕ) (o i j at room : ℕ) → j % 4 ≡ 0 → InRun j 4 (λ k. taken_at Table.Fine l o k ≤ 4) → Listable Table.Fine l o i j 4 at room → GroupListable Table.Fine l o i j 4 at room
small_listable l o i j at room e f h = record {
  some = omega arith;
  aligned = e;
  only = λ k p q.
      fine_sizes (table_word l o k) (λ r. r ≤ 4 → 1 < r → r ≡ 4) (λ m g. absurd (omega arith)) (λ m g. absurd (omega arith)) (λ m g. refl) (λ m g. absurd (omega arith))
      (f k p q);
  run = h;
}

-- a large page's group that is none has small and tiny pages alone
pub no_large : (l : List ℕ) (o i j : ℕ) → j % 64 ≡ 0 → Unbroken Table.Fine l o j 64 → (taken_at Table.Fine l o j ≡ 64 → ⊥) → InRun j 64 (λ k. taken_at Table.Fine l o k ≤ 4)
no_large l o i j e whole odd k p q = elim (dec_le (taken_at Table.Fine l o k) 4) [
  | yes h ↦ h
  | no h ↦ absurd (no_group Table.Fine l o i j 64 (omega arith) e whole odd k p q (fine_large (table_word l o k) (omega arith)))
]

-- the pages of the first-level words, one after the other
module _ (l : List ℕ) (base : ℕ) where
  pub level-append : (n i m : ℕ) → level_pages l base i (n + m) ≡ level_pages l base i n ++ level_pages l base (i + n) m
  unfolding level_pages
  level-append zero i m = ap₂ (level_pages l base) (let z : i ≡ i + 0 = omega arith in z) (let z : 0 + m ≡ m = omega arith in z)
  level-append (suc n) i m =
      let d : First = first_of (word_at l (4 * i)) in
      ap (level_pages l base i) (let z : suc n + m ≡ suc (n + m) = omega arith in z)
      ∙ ap (λ (x : List Mapping). first_pages l base i d ++ x) (level-append n (suc i) m)
      ∙ sym (append_assoc (first_pages l base i d) (level_pages l base (suc i) n) (level_pages l base (suc i + n) m))
      ∙ ap (λ (a : ℕ). (first_pages l base i d ++ level_pages l base (suc i) n) ++ level_pages l base a m) (let z : suc i + n ≡ i + suc n = omega arith in z)

  level-one : (i : ℕ) → level_pages l base (0 + i) 1 ≡ first_pages l base i (first_of (word_at l (4 * i)))
  unfolding level_pages
  level-one i = ap (λ (k : ℕ). level_pages l base k 1) (let z : 0 + i ≡ i = omega arith in z) ∙ append-nil (first_pages l base i (first_of (word_at l (4 * i))))

  pub level_snoc : (i : ℕ) → level_pages l base 0 (i + 1) ≡ level_pages l base 0 i ++ first_pages l base i (first_of (word_at l (4 * i)))
  level_snoc i = level-append i 0 1 ∙ ap (λ (x : List Mapping). level_pages l base 0 i ++ x) (level-one i)

  module _ (n i at : ℕ) (out m : List ℕ) (low : i < n) (h : Fits (level_pages l base 0 n) 0 (length out)) (p : Put (level_pages l base 0 i) 0 out at m) where
    parts : length (level_pages l base 0 n) ≡ length (level_pages l base 0 i) + length (first_pages l base i (first_of (word_at l (4 * i)))) + length (level_pages l base (0 + (i + 1)) (n - (i + 1)))
    parts =
        ap (λ (k : ℕ). length (level_pages l base 0 k)) (let z : n ≡ i + 1 + (n - (i + 1)) = omega arith in z)
        ∙ ap length (level-append (i + 1) 0 (n - (i + 1)))
        ∙ length-append (level_pages l base 0 (i + 1)) (level_pages l base (0 + (i + 1)) (n - (i + 1)))
        ∙ ap (λ (k : ℕ). k + length (level_pages l base (0 + (i + 1)) (n - (i + 1))))
        (ap length (level_snoc i) ∙ length-append (level_pages l base 0 i) (first_pages l base i (first_of (word_at l (4 * i)))))

    pub first_fits : Fits (first_pages l base i (first_of (word_at l (4 * i)))) at (length m)
    first_fits = omega (arith, parts, h, p.0, put_length (level_pages l base 0 i) 0 at out m (omega (arith, parts, h)) p)

    pub level_put : (s : ℕ) (x : List ℕ) → Put (first_pages l base i (first_of (word_at l (4 * i)))) at m s x → Put (level_pages l base 0 (i + 1)) 0 out s x
    level_put s x q =
        put_same _ _ 0 s out x (sym (level_snoc i))
        (put_more (level_pages l base 0 i) (first_pages l base i (first_of (word_at l (4 * i)))) 0 at s out m x
        (omega (arith, parts, h, length-append (level_pages l base 0 i) (first_pages l base i (first_of (word_at l (4 * i)))))) p q)

-- a table that may be listed
pub table_listable : (t : Table) (l : List ℕ) (base at i from room : ℕ) → i < megabytes → TableListable t l base at → Fits (table_pages t l (at - base) i 0 (index_limit t)) from room
    → Listable t l (at - base) i 0 (index_limit t) from room
table_listable t l base at i from room m h f = record {
  words = omega (arith, inside-from base (length l) t at h.inside, inside_to base (length l) t at h.inside);
  index = omega arith;
  megabyte = m;
  unbroken = h.unbroken;
  records = f;
}

-- from the list's start on
pub put_zero : (ms : List Mapping) (n : ℕ) (l : List ℕ) → n ≡ length ms → pasted l 0 (records_of ms) ≡ records_of ms ++ drop (12 * n) l
unfolding pasted
put_zero ms n l e = ap (λ (k : ℕ). records_of ms ++ drop k l) (let z : 0 + length (records_of ms) ≡ 12 * n = omega (arith, records-length ms) in z)

-- what listing answers and leaves, by the verdict
pub list-is : (n : ℕ) (l : List ℕ) (base : ℕ) (out : List ℕ) (v : Result ℕ ImageError) (a : Result ℕ ListError) → check_of n l base ≡ v → inventory_of v (length out) ≡ a
    → inventoried a (inventory_left a (records_of (pages_in n l base)) out) ≡ list_of n l base out
unfolding list_of
list-is n l base out v a e f =
    ap (λ (x : Result ℕ ListError). inventoried x (inventory_left x (records_of (pages_in n l base)) out)) (sym (ap (λ (u : Result ℕ ImageError). inventory_of u (length out)) e ∙ f))

-- no first-level word is put
pub put_start : (l : List ℕ) (base : ℕ) (out : List ℕ) → Put (level_pages l base 0 0) 0 out 0 out
unfolding level_pages
put_start l base out = put_none 0 out
