-- A memory read word by word, and its tables' words as the walk reads them. Assumes nothing.
use Rattle.std.proofs.Common.{Result, Ok, Err}
use Rattle.walk.specs.declared.Unfound.{Unfound}
use Rattle.std.proofs.Common.{Option, Some, None}
use Rattle.audit.specs.Names.{◌≡◌, true, false, List, ℕ, ◌+◌, ◌-◌, ◌*◌, ◌/◌, ◌^◌, ◌<◌, ◌≤◌, length, word_at, Lent, LentAt, lent_ok, lent_alone, Table, Page}
use Rattle.audit.specs.Names.{second_of, index_limit, repeats, word_bits, read_in, First, first_of, AllRepeated}
use Rattle.audit.proofs.Names.{refl, sym, ap, ap₂, ◌∙◌, subst, arith, le-leb, and_yes, and_right, image_ok, table_word, taken, taken_at, broken, InRun, Unbroken, FirstSound}
use mathlib.Core.Logic.{inl, inr}
use native.Mathlib.Nat.{mul-div_cancel, mul-mod_left, suc-mul, mul-le-mul_right}
use lib.Pow.{pow_pos, pow-add, shr_lt}
use Rattle.page.specs.Words.{low_bits}
use Rattle.page.proofs.Slot.{low_bits-le}
use Rattle.memory.specs.declared.Place.{Place}
use Rattle.memory.specs.Memory.{lies_in, place_in}
use Rattle.walk.specs.Statements.{bare}
use Rattle.walk.specs.Repeated.{found_in, Repeated, RepeatedBelow, RepeatedAfter}
use Rattle.walk.proofs.Laws.{second_says}
use Rattle.walk.proofs.Lent.{on_read, ext-read}
use Rattle.audit.proofs.Equal.{in_group, group_start, equal-unbroken, unbroken-equal, single_unbroken}
use Rattle.audit.proofs.Inside.{inside-from, inside_to, table_inside}
use Rattle.audit.proofs.Accepts.{LevelSound, accepted_audited, audited_accepted}
use Rattle.audit.specs.Statements.{NamedInside, AcceptedExactly}
use Rattle.memory.proofs.Places.{none_beside}

-- a memory lent at a base reads as its words
lies : (base n o : ℕ) → o + 4 ≤ n → lies_in base n (base + o) ≡ true
unfolding lies_in
lies base n o h = and_yes _ _ (le-leb base (base + o) (omega arith)) ∙ le-leb (base + o + 4) (base + n) (omega arith)

pub lent-read : (m : Lent) (l : List ℕ) (base o : ℕ) → lent_ok m ≡ true → LentAt l base m → o + 4 ≤ length l → read_in m (base + o) ≡ Some ((word_at l o), (place_in m (base + o)))
lent-read m l base o ok (inl h) f =
    on_read m ok (base + o) (ap₂ (λ (x : List ℕ) (b : ℕ). lies_in b (length x) (base + o)) h.0 h.1 ∙ lies base (length l) o f)
    ∙ ap₂ (λ (x : List ℕ) (k : ℕ). Some ((word_at x k), (place_in m (base + o)))) h.0 (let b = h.1 in let z : base + o - m.onbase ≡ o = omega arith in z)
lent-read m l base o ok (inr h) f =
    ext-read m ok (base + o) (ap₂ (λ (x : List ℕ) (b : ℕ). lies_in b (length x) (base + o)) h.0 h.1 ∙ lies base (length l) o f)
    ∙ ap₂ (λ (x : List ℕ) (k : ℕ). Some ((word_at x k), (place_in m (base + o)))) h.0 (let b = h.1 in let z : base + o - m.extbase ≡ o = omega arith in z)

-- a reading of a table: word j of it is read where it lies
abbrev pub TableRead : (ℕ → Option (ℕ × Place)) → Table → List ℕ → ℕ → ℕ → Type 0
TableRead rd t l o at = (j : ℕ) → j < index_limit t → (p : Place) × (rd (at + 4 * j) ≡ Some ((table_word l o j), p))

abbrev word_in : Option (ℕ × Place) → ℕ
word_in (Some (w, p)) = w
word_in None = 0

-- the word of a page takes as many words as the page
pub takes_page : (t : Table) (l : List ℕ) (o k : ℕ) (p : Page) → second_of t (table_word l o k) ≡ Ok p → taken_at t l o k ≡ repeats t p.kind
takes_page t l o k p e = ap (taken t) e

-- two words of a group of n have the same group
same_group : (n k i : ℕ) → 0 < n → k / n * n ≤ i → i < k / n * n + n → i / n ≡ k / n
same_group n k i some h g =
    sym (mul-div_cancel (i / n) some) ∙ ap (λ (x : ℕ). x / n) (group_start n (k / n * n) i some (mul-mod_left (k / n) n) h g) ∙ mul-div_cancel (k / n) some

module _ (rd : ℕ → Option (ℕ × Place)) (t : Table) (l : List ℕ) (o at : ℕ) (reads : TableRead rd t l o at) where
  bare-is : (j : ℕ) → j < index_limit t → bare (rd (at + 4 * j)) ≡ Some ((table_word l o j), Place.Nowhere)
  bare-is j h = ap bare (reads j h).1

  pub found-is : (j : ℕ) → j < index_limit t → found_in t (rd (at + 4 * j)) ≡ second_of t (table_word l o j)
  found-is j h = ap (found_in t) (reads j h).1

  -- words that are not broken are repeated, and words that are repeated are not broken
  pub unbroken_repeated : Unbroken t l o 0 (index_limit t) → Repeated rd t at
  unbroken_repeated f j j' p h h' e same =
      let r : taken_at t l o j ≡ repeats t p.kind = takes_page t l o j p (sym (found-is j h) ∙ e) in
      let some : 0 < taken_at t l o j = subst (λ (n : ℕ). 0 < n) (sym r) (pow_pos (low_bits p.kind - word_bits t)) in
      let g = in_group (taken_at t l o j) j' some in
      let q : j' / taken_at t l o j ≡ j / taken_at t l o j = subst (λ (n : ℕ). j' / n ≡ j / n) (sym r) same in
      let u : j' / taken_at t l o j * taken_at t l o j ≡ j / taken_at t l o j * taken_at t l o j = ap (λ (x : ℕ). x * taken_at t l o j) q in
      bare-is j' h'
      ∙ ap (λ (w : ℕ). Some (w, Place.Nowhere)) (unbroken-equal t l o j (f j (omega arith) (omega arith)) j' (omega (arith, g.0, u)) (omega (arith, g.1, u)))
      ∙ sym (bare-is j h)

  -- a word's group lies in its table
  group_low : (k : ℕ) (p : Page) → k < index_limit t → second_of t (table_word l o k) ≡ Ok p → k / repeats t p.kind * repeats t p.kind + repeats t p.kind ≤ index_limit t
  group_low k p h e =
      let a : ℕ = 20 - low_bits p.kind in
      let b : ℕ = low_bits p.kind - word_bits t in
      let s : a + b ≡ 20 - word_bits t = omega (arith, low_bits-le p.kind, (second_says t _ p e).0) in
      let low : k / 2 ^ b < 2 ^ a = shr_lt a b (subst (λ (x : ℕ). k < 2 ^ x) (sym s) h) in
      subst (λ (x : ℕ). k / 2 ^ b * 2 ^ b + 2 ^ b ≤ 2 ^ x) s
      (omega (arith, suc-mul (k / 2 ^ b) (2 ^ b), mul-le-mul_right (2 ^ b) low, pow-add 2 a b))

  pub repeated_unbroken : Repeated rd t at → Unbroken t l o 0 (index_limit t)
  repeated_unbroken rep k low h = by (second_of t (table_word l o k)) refl
    where
      none : taken_at t l o k ≡ 0 → broken t l o k ≡ false
      none e = single_unbroken t l o k (omega (arith, e))

      by : (f : Result Page Unfound) → second_of t (table_word l o k) ≡ f → broken t l o k ≡ false
      by (Ok p) e =
          let r : taken_at t l o k ≡ repeats t p.kind = takes_page t l o k p e in
          let some : 0 < repeats t p.kind = pow_pos (low_bits p.kind - word_bits t) in
          equal-unbroken t l o k
          (subst (λ (n : ℕ). InRun (k / n * n) n (λ i. table_word l o i ≡ table_word l o k)) (sym r)
          (λ i u v.
          let top = group_low k p (omega arith) e in
          let here : i < index_limit t = omega (arith, v, top) in
          ap word_in
          (sym (bare-is i here) ∙ rep k i p (omega arith) here (found-is k (omega arith) ∙ e) (same_group (repeats t p.kind) k i some u v) ∙ bare-is k (omega arith))))
      by (Err Unfound.NoPage) e = none (ap (taken t) e)
      by (Err Unfound.Missing) e = none (ap (taken t) e)

-- the words of an image in one of two memories
module _ (m : Lent) (l : List ℕ) (base : ℕ) (ok : lent_ok m ≡ true) (at : LentAt l base m) where
  pub table_reads : (t : Table) (a : ℕ) → base ≤ a → a + 4 * index_limit t ≤ base + length l → TableRead (read_in m) t l (a - base) a
  table_reads t a from to j h =
      let o : ℕ = a - base + 4 * j in
      let z : a + 4 * j ≡ base + o = omega arith in
      (place_in m (base + o), ap (read_in m) z ∙ lent-read m l base o ok at (omega arith))

  first_read : (n i : ℕ) → 4 * n ≤ length l → i < n → read_in m (base + 4 * i) ≡ Some ((word_at l (4 * i)), (place_in m (base + 4 * i)))
  first_read n i h g = lent-read m l base (4 * i) ok at (omega arith)

  -- where no word is broken the walk's words are repeated
  below_repeated : (d : First) → FirstSound l base d → RepeatedBelow (read_in m) d
  below_repeated First.Fault h = tt
  below_repeated (First.Whole p) h = tt
  below_repeated (First.Coarse a) h =
      unbroken_repeated (read_in m) Table.Coarse l (a.0 - base) a.0 (table_reads Table.Coarse a.0 (inside-from _ _ _ _ h.inside) (inside_to _ _ _ _ h.inside)) h.unbroken
  below_repeated (First.Fine a) h =
      unbroken_repeated (read_in m) Table.Fine l (a.0 - base) a.0 (table_reads Table.Fine a.0 (inside-from _ _ _ _ h.inside) (inside_to _ _ _ _ h.inside)) h.unbroken

  pub sound_repeated : (n : ℕ) → 4 * n ≤ length l → LevelSound l base 0 n → AllRepeated (read_in m) first_of n base
  sound_repeated n h f i g =
      subst (RepeatedAfter (read_in m) first_of) (sym (first_read n i h g)) (below_repeated (first_of (word_at l (4 * i))) (f i (omega arith) (omega arith)))

  -- and the other way
  below-sound : (d : First) → NamedInside base (length l) d → RepeatedBelow (read_in m) d → FirstSound l base d
  below-sound First.Fault h g = tt
  below-sound (First.Whole p) h g = tt
  below-sound (First.Coarse a) h g = record {
    inside = table_inside base (length l) Table.Coarse a.0 h.0 h.1;
    unbroken = repeated_unbroken (read_in m) Table.Coarse l (a.0 - base) a.0 (table_reads Table.Coarse a.0 h.0 h.1) g;
  }
  below-sound (First.Fine a) h g = record {
    inside = table_inside base (length l) Table.Fine a.0 h.0 h.1;
    unbroken = repeated_unbroken (read_in m) Table.Fine l (a.0 - base) a.0 (table_reads Table.Fine a.0 h.0 h.1) g;
  }

  pub repeated_sound : (n : ℕ) → 4 * n ≤ length l → ((i : ℕ) → i < n → NamedInside base (length l) (first_of (word_at l (4 * i)))) → AllRepeated (read_in m) first_of n base → LevelSound l base 0 n
  repeated_sound n h f g i p q =
      below-sound (first_of (word_at l (4 * i))) (f i (omega arith)) (subst (RepeatedAfter (read_in m) first_of) (first_read n i h (omega arith)) (g i (omega arith)))

sound-inside : (l : List ℕ) (base : ℕ) (d : First) → FirstSound l base d → NamedInside base (length l) d
sound-inside l base First.Fault h = tt
sound-inside l base (First.Whole p) h = tt
sound-inside l base (First.Coarse a) h = (inside-from _ _ _ _ h.inside, inside_to _ _ _ _ h.inside)
sound-inside l base (First.Fine a) h = (inside-from _ _ _ _ h.inside, inside_to _ _ _ _ h.inside)

-- a memory that may hold an image may be lent alone
pub lent_alone_lem : (l : List ℕ) (base : ℕ) → image_ok base (length l) ≡ true → lent_ok (lent_alone l base) ≡ true
unfolding image_ok
lent_alone_lem l base h = none_beside base (length l) (and_right _ _ h)

pub alone_at : (l : List ℕ) (base : ℕ) → LentAt l base (lent_alone l base)
alone_at l base = inr (refl, refl)

pub accepted-exactly : AcceptedExactly
accepted-exactly n l base = (
  (λ k e.
      let a = (accepted_audited n l base k e).0 in
      record {
        memory = a.memory;
        first = a.first;
        tables = λ i h. sound-inside l base (first_of (word_at l (4 * i))) (a.level i (omega arith) (omega arith));
        groups = sound_repeated (lent_alone l base) l base (lent_alone_lem l base a.memory) (alone_at l base) n a.first a.level;
      }),
  (λ c.
      audited_accepted n l base
      (record {
        memory = c.memory;
        first = c.first;
        level = repeated_sound (lent_alone l base) l base (lent_alone_lem l base c.memory) (alone_at l base) n c.first c.tables c.groups;
      })),
)
