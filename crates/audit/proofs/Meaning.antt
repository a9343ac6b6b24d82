-- The plain walk of an accepted image finds what its listed pages say. Assumes nothing.
use Rattle.memory.specs.declared.Place.{Place}
use Rattle.std.proofs.Common.{Result, Ok, Err}
use Rattle.walk.specs.declared.Unfound.{Unfound}
use Rattle.std.proofs.Common.{Some, None}
use Rattle.std.proofs.Common.{Option}
use Rattle.audit.specs.Names.{◌≡◌, true, List, [], ◌∷◌, ℕ, zero, suc, ◌+◌, ◌-◌, ◌*◌, ◌/◌, ◌%◌, ◌^◌, ◌<◌, ◌≤◌, eqb, length, megabytes, limit}
use Rattle.audit.specs.Names.{VirtualAddress, word_at, Lent, LentAt, lent_ok, Table, First, Page, Mapping, holder, first_of, second_of}
use Rattle.audit.specs.Names.{index_limit, repeats, word_bits, read_in, look_in, base_bits, AllRepeated}
use Rattle.audit.proofs.Names.{refl, sym, ap, ap₂, ◌∙◌, subst, false≢true, arith, dec_le, eq-eqb, eqb-true, table_word, taken_at, page_mapping, word_pages, table_pages}
use Rattle.audit.proofs.Names.{first_pages, level_pages, pages_in, Unbroken, FirstSound}
use native.Mathlib.Nat.{mod-lt, mul-div_cancel, mul-mod_left, div-mul-le_self}
use lib.Pow.{pow_pos}
use Rattle.page.specs.Words.{low_bits}
use Rattle.page.specs.declared.Kind.{Kind}
use Rattle.page.proofs.Picks.{pick_by}
use Rattle.page.proofs.Slot.{low_bits-le}
use Rattle.records.specs.Mappings.{holds}
use Rattle.records.proofs.Alls.{All, all_append, all_map}
use Rattle.records.proofs.Holders.{OnHeld, all-holder, holds-megabyte, holder-append, holder-one}
use Rattle.memory.specs.declared.Source.{Source}
use Rattle.memory.specs.Memory.{place_in}
use Rattle.walk.specs.Walk.{after_first, by_first, walk_from, coarse_at, fine_at, source_at}
use Rattle.walk.specs.Distances.{is_missing}
use Rattle.walk.proofs.Laws.{second_says, second-there, SectionFirst, first_section}
use Rattle.walk.proofs.Indices.{first_at_legal, aligned}
use Rattle.walk.proofs.Repeats.{one_group, one-page, repeated_uniform, found-second}
use Rattle.audit.specs.Statements.{found_by, PagesMean}
use Rattle.audit.proofs.Equal.{in_group, unbroken-equal}
use Rattle.audit.proofs.Counts.{pages-append}
use Rattle.audit.proofs.Putting.{page-listed, level-append}
use Rattle.audit.proofs.Inside.{inside-from, inside_to, image-base, word_low}
use Rattle.audit.proofs.Accepts.{LevelSound, accepted_audited}
use Rattle.audit.proofs.Reading.{lent-read, takes_page, found-is, table_reads, sound_repeated}

-- what a mapping that holds an address must be, where the walk finds f
abbrev Fitting : VirtualAddress → Result Page Unfound → Mapping → Type 0
Fitting va f m = holds m va ≡ true → found_by (Some m) ≡ f

-- mappings of which each that holds the address is what is found, and one does where a page is found
found_by_lem : (ms : List Mapping) (va : VirtualAddress) (f : Result Page Unfound) → All (Fitting va f) ms → (holder ms va ≡ None → f ≡ Err Unfound.NoPage) → f ≡ found_by (holder ms va)
found_by_lem ms va f all none = by (holder ms va) refl (all-holder (Fitting va f) ms va all)
  where
    by : (h : Option Mapping) → holder ms va ≡ h → OnHeld (λ m. Fitting va f m × (holds m va ≡ true)) h → f ≡ found_by h
    by (Some m) e o = sym (o.0 o.1)
    by None e o = none e

-- the address that word k of a table of megabyte i stands for: its index, its megabyte
index_back : (t : Table) (i k : ℕ) → k < index_limit t → (i * 2 ^ 20 + k * 2 ^ word_bits t) / 2 ^ word_bits t % index_limit t ≡ k
index_back Table.Coarse i k h = omega arith
index_back Table.Fine i k h = omega arith

megabyte_back : (t : Table) (i k : ℕ) → k < index_limit t → (i * 2 ^ 20 + k * 2 ^ word_bits t) / 2 ^ 20 ≡ i
megabyte_back t i k h = omega (arith, word_low t k h)

module _ (t : Table) (l : List ℕ) (o i : ℕ) (whole : Unbroken t l o 0 (index_limit t)) (va : VirtualAddress) (mega : va.0 / 2 ^ 20 ≡ i) where
  abbrev index : ℕ
  index = va.0 / 2 ^ word_bits t % index_limit t

  abbrev start : ℕ → ℕ
  start k = i * 2 ^ 20 + k * 2 ^ word_bits t

  index_low : index < index_limit t
  index_low = mod-lt _ (pow_pos (20 - word_bits t))

  -- a listed page that holds the address is what its word says
  word_fitting : (k : ℕ) → k < index_limit t → (p : Page) → second_of t (table_word l o k) ≡ Ok p → Fitting va (second_of t (table_word l o index)) (page_mapping (start k) p)
  unfolding holds
  word_fitting k h p e held =
      let r : taken_at t l o k ≡ repeats t p.kind = takes_page t l o k p e in
      let some : 0 < taken_at t l o k = subst (λ (n : ℕ). 0 < n) (sym r) (pow_pos (low_bits p.kind - word_bits t)) in
      let g : index / repeats t p.kind ≡ start k / 2 ^ word_bits t % index_limit t / repeats t p.kind =
      one_group (word_bits t) (low_bits p.kind) (second_says t _ p e).0 (low_bits-le p.kind) va.0 (start k) (eqb-true _ _ held) in
      let q : index / taken_at t l o k ≡ k / taken_at t l o k =
      subst (λ (n : ℕ). index / n ≡ k / n) (sym r) (g ∙ ap (λ (x : ℕ). x / repeats t p.kind) (index_back t i k h)) in
      let u : index / taken_at t l o k * taken_at t l o k ≡ k / taken_at t l o k * taken_at t l o k = ap (λ (x : ℕ). x * taken_at t l o k) q in
      let b = in_group (taken_at t l o k) index some in
      sym (ap (second_of t) (unbroken-equal t l o k (whole k (omega arith) (omega arith)) index (omega (arith, b.0, u)) (omega (arith, b.1, u))) ∙ e)

  word_fits : (k : ℕ) → k < index_limit t → (f : Result Page Unfound) → second_of t (table_word l o k) ≡ f → All (Fitting va (second_of t (table_word l o index))) (word_pages t i k f)
  word_fits k h (Ok p) e =
      pick_by (All (Fitting va (second_of t (table_word l o index)))) _ (page_mapping (start k) p ∷ []) [] (λ _. (word_fitting k h p e, tt)) (λ _. tt)
  word_fits k h (Err Unfound.NoPage) e = tt
  word_fits k h (Err Unfound.Missing) e = tt

  table_fits : (n j : ℕ) → j + n ≤ index_limit t → All (Fitting va (second_of t (table_word l o index))) (table_pages t l o i j n)
  unfolding table_pages
  table_fits zero j h = tt
  table_fits (suc n) j h =
      all_append (Fitting va (second_of t (table_word l o index))) (word_pages t i j (second_of t (table_word l o j))) (table_pages t l o i (suc j) n)
      (word_fits j (omega arith) (second_of t (table_word l o j)) refl) (table_fits n (suc j) (omega arith))

  -- a page that is found is listed at the first word of its group
  table_holds : (p : Page) → second_of t (table_word l o index) ≡ Ok p → holder (table_pages t l o i 0 (index_limit t)) va ≡ None → ⊥
  unfolding holds
  table_holds p e none =
      let n : ℕ = repeats t p.kind in
      let some : 0 < n = pow_pos (low_bits p.kind - word_bits t) in
      let r : taken_at t l o index ≡ n = takes_page t l o index p e in
      let h : ℕ = index / n * n in
      let low : h < index_limit t = omega (arith, index_low, div-mul-le_self index n) in
      let same : table_word l o h ≡ table_word l o index =
      unbroken-equal t l o index (whole index (omega arith) (omega (arith, index_low))) h
      (omega (arith, ap (λ (x : ℕ). index / x * x) r)) (omega (arith, ap (λ (x : ℕ). index / x * x) r, r, some)) in
      let f : second_of t (table_word l o h) ≡ Ok p = ap (second_of t) same ∙ e in
      let first : h % taken_at t l o h ≡ 0 = ap (λ (x : ℕ). h % x) (takes_page t l o h p f) ∙ mul-mod_left (index / n) n in
      let one = page-listed t l o i h p (start h) f (λ _. first) refl in
      let a = (holder-append (table_pages t l o i 0 h) (table_pages t l o i (0 + h) (1 + (index_limit t - (h + 1)))) va
      (ap (λ (ms : List Mapping). holder ms va) (sym (ap (table_pages t l o i 0) (let z : index_limit t ≡ h + (1 + (index_limit t - (h + 1))) = omega arith in z)
      ∙ pages-append t l o i h 0 (1 + (index_limit t - (h + 1))))) ∙ none)).1 in
      let b = (holder-append (table_pages t l o i (0 + h) 1) (table_pages t l o i (0 + h + 1) (index_limit t - (h + 1))) va
      (ap (λ (ms : List Mapping). holder ms va) (sym (pages-append t l o i 1 (0 + h) (index_limit t - (h + 1)))) ∙ a)).0 in
      let c : holder (page_mapping (start h) p ∷ []) va ≡ None =
      ap (λ (ms : List Mapping). holder ms va) (sym (ap (λ (k : ℕ). table_pages t l o i k 1) (let z : 0 + h ≡ h = omega arith in z) ∙ one)) ∙ b in
      holder-one (page_mapping (start h) p) va
      (eq-eqb _ _
      (one-page (word_bits t) (low_bits p.kind) (second_says t _ p e).0 (low_bits-le p.kind) va.0 (start h) (mega ∙ sym (megabyte_back t i h low))
      (sym (mul-div_cancel (index / n) some) ∙ sym (ap (λ (x : ℕ). x / n) (index_back t i h low)))))
      c

  table_none : holder (table_pages t l o i 0 (index_limit t)) va ≡ None → second_of t (table_word l o index) ≡ Err Unfound.NoPage
  table_none none = by (second_of t (table_word l o index)) refl
    where
      by : (f : Result Page Unfound) → second_of t (table_word l o index) ≡ f → second_of t (table_word l o index) ≡ Err Unfound.NoPage
      by (Ok p) e = absurd (table_holds p e none)
      by (Err Unfound.NoPage) e = e
      by (Err Unfound.Missing) e = let z = second-there t (table_word l o index) ∙ ap is_missing e in absurd (false≢true z)

-- the pages of megabyte x lie in it
module _ (x : ℕ) where
  abbrev InMegabyte : Mapping → Type 0
  InMegabyte m = m.at.0 / 2 ^ 20 ≡ x

  word-megabyte : (t : Table) (k : ℕ) (f : Result Page Unfound) → k < index_limit t → All InMegabyte (word_pages t x k f)
  word-megabyte t k (Ok p) h =
      pick_by (All InMegabyte) _ (page_mapping (x * 2 ^ 20 + k * 2 ^ word_bits t) p ∷ []) [] (λ _. (megabyte_back t x k h, tt)) (λ _. tt)
  word-megabyte t k (Err Unfound.NoPage) h = tt
  word-megabyte t k (Err Unfound.Missing) h = tt

  table_megabyte : (t : Table) (l : List ℕ) (o n j : ℕ) → j + n ≤ index_limit t → All InMegabyte (table_pages t l o x j n)
  unfolding table_pages
  table_megabyte t l o zero j h = tt
  table_megabyte t l o (suc n) j h =
      all_append InMegabyte (word_pages t x j (second_of t (table_word l o j))) (table_pages t l o x (suc j) n) (word-megabyte t j (second_of t (table_word l o j)) (omega arith))
      (table_megabyte t l o n (suc j) (omega arith))

  first-megabyte : (l : List ℕ) (base : ℕ) (d : First) → All InMegabyte (first_pages l base x d)
  first-megabyte l base First.Fault = tt
  first-megabyte l base (First.Whole p) = ((let z : x * 2 ^ 20 / 2 ^ 20 ≡ x = omega arith in z), tt)
  first-megabyte l base (First.Coarse at) = table_megabyte Table.Coarse l (at.0 - base) 256 0 (omega arith)
  first-megabyte l base (First.Fine at) = table_megabyte Table.Fine l (at.0 - base) 1024 0 (omega arith)

-- what the walk finds by a first-level word of the address's megabyte
abbrev found_under : List ℕ → ℕ → ℕ → First → Result Page Unfound
found_under l base va First.Fault = Err Unfound.NoPage
found_under l base va (First.Whole p) = Ok p
found_under l base va (First.Coarse at) = second_of Table.Coarse (table_word l (at.0 - base) (va / 2 ^ 12 % 2 ^ 8))
found_under l base va (First.Fine at) = second_of Table.Fine (table_word l (at.0 - base) (va / 2 ^ 10 % 2 ^ 10))

module _ (l : List ℕ) (base : ℕ) (va : VirtualAddress) where
  abbrev mb : ℕ
  mb = va.0 / 2 ^ 20

  section_holds : (p : Page) → p.kind ≡ Kind.Section → holds (page_mapping (mb * 2 ^ 20) p) va ≡ true
  unfolding holds
  section_holds p e =
      subst (λ (k : Kind). eqb (va.0 / 2 ^ low_bits k) (mb * 2 ^ 20 / 2 ^ low_bits k) ≡ true) (sym e) (eq-eqb _ _ (let z : mb ≡ mb * 2 ^ 20 / 2 ^ 20 = omega arith in z))

  first_fitting : (d : First) → FirstSound l base d → All (Fitting va (found_under l base va.0 d)) (first_pages l base mb d)
  first_fitting First.Fault h = tt
  first_fitting (First.Whole p) h = ((λ _. refl), tt)
  first_fitting (First.Coarse at) h = table_fits Table.Coarse l (at.0 - base) mb h.unbroken va refl 256 0 (omega arith)
  first_fitting (First.Fine at) h = table_fits Table.Fine l (at.0 - base) mb h.unbroken va refl 1024 0 (omega arith)

  first-none : (d : First) → SectionFirst d → FirstSound l base d → holder (first_pages l base mb d) va ≡ None → found_under l base va.0 d ≡ Err Unfound.NoPage
  first-none First.Fault s h e = refl
  first-none (First.Whole p) s h e = absurd (holder-one (page_mapping (mb * 2 ^ 20) p) va (section_holds p s) e)
  first-none (First.Coarse at) s h e = table_none Table.Coarse l (at.0 - base) mb h.unbroken va refl e
  first-none (First.Fine at) s h e = table_none Table.Fine l (at.0 - base) mb h.unbroken va refl e

  abbrev said : First
  said = first_of (word_at l (4 * (va.0 / 2 ^ 20)))

  module _ (sound : LevelSound l base 0 megabytes) (low : va.0 < limit) where
    level_fitting : (n i : ℕ) → i + n ≤ megabytes → All (Fitting va (found_under l base va.0 said)) (level_pages l base i n)
    unfolding level_pages
    level_fitting zero i h = tt
    level_fitting (suc n) i h =
        all_append (Fitting va (found_under l base va.0 said)) (first_pages l base i (first_of (word_at l (4 * i)))) (level_pages l base (suc i) n) here (level_fitting n (suc i) (omega arith))
      where
        d : First
        d = first_of (word_at l (4 * i))

        other : (mb ≡ i → ⊥) → All (Fitting va (found_under l base va.0 said)) (first_pages l base i d)
        other far = all_map (first_pages l base i d) (λ m e held. absurd (far (holds-megabyte m va held ∙ e))) (first-megabyte i l base d)

        here : All (Fitting va (found_under l base va.0 said)) (first_pages l base i d)
        here = elim (dec_le i mb) [
          | yes a ↦
              elim (dec_le mb i) [
                | yes b ↦
                    subst (λ (x : ℕ). All (Fitting va (found_under l base va.0 said)) (first_pages l base x (first_of (word_at l (4 * x))))) (let z : mb ≡ i = omega arith in z)
                    (first_fitting said (sound mb (omega arith) (omega arith)))
                | no b ↦ other (λ e. b (omega arith))
              ]
          | no a ↦ other (λ e. a (omega arith))
        ]

    level-none : holder (level_pages l base 0 megabytes) va ≡ None → found_under l base va.0 said ≡ Err Unfound.NoPage
    unfolding level_pages
    level-none none =
        let rest : ℕ = megabytes - (mb + 1) in
        let a = (holder-append (level_pages l base 0 mb) (level_pages l base (0 + mb) (1 + rest)) va
        (ap (λ (ms : List Mapping). holder ms va) (sym (ap (level_pages l base 0) (let z : megabytes ≡ mb + (1 + rest) = omega arith in z) ∙ level-append l base mb 0 (1 + rest))) ∙ none)).1 in
        let b = (holder-append (first_pages l base mb said) (level_pages l base (suc mb) rest) va
        (ap (λ (ms : List Mapping). holder ms va) (sym (ap₂ (level_pages l base) (let z : 0 + mb ≡ mb = omega arith in z) (let z : 1 + rest ≡ suc rest = omega arith in z))) ∙ a)).0 in
        first-none said (first_section (word_at l (4 * mb))) (sound mb (omega arith) (omega arith)) b

    pub listed_found : found_under l base va.0 (first_of (word_at l (4 * (va.0 / 2 ^ 20)))) ≡ found_by (holder (pages_in megabytes l base) va)
    listed_found = found_by_lem (level_pages l base 0 megabytes) va (found_under l base va.0 said) (level_fitting megabytes 0 (omega arith)) level-none

-- the walk over two memories, one of which holds the image
module _ (m : Lent) (l : List ℕ) (base : ℕ) (ok : lent_ok m ≡ true) (at : LentAt l base m) (va : VirtualAddress) where
  below-found : (s : Source) (d : First) → FirstSound l base d → (by_first (read_in m) va.0 s d).found ≡ found_under l base va.0 d
  unfolding coarse_at fine_at
  below-found s First.Fault h = refl
  below-found s (First.Whole p) h = refl
  below-found s (First.Coarse a) h =
      found-second Table.Coarse s (a.0 + 4 * (va.0 / 2 ^ 12 % 2 ^ 8)) (read_in m (a.0 + 4 * (va.0 / 2 ^ 12 % 2 ^ 8)))
      ∙ found-is (read_in m) Table.Coarse l (a.0 - base) a.0 (table_reads m l base ok at Table.Coarse a.0 (inside-from _ _ _ _ h.inside) (inside_to _ _ _ _ h.inside))
      (va.0 / 2 ^ 12 % 2 ^ 8) (mod-lt _ (pow_pos 8))
  below-found s (First.Fine a) h =
      found-second Table.Fine s (a.0 + 4 * (va.0 / 2 ^ 10 % 2 ^ 10)) (read_in m (a.0 + 4 * (va.0 / 2 ^ 10 % 2 ^ 10)))
      ∙ found-is (read_in m) Table.Fine l (a.0 - base) a.0 (table_reads m l base ok at Table.Fine a.0 (inside-from _ _ _ _ h.inside) (inside_to _ _ _ _ h.inside))
      (va.0 / 2 ^ 10 % 2 ^ 10) (mod-lt _ (pow_pos 10))

  walk-finds : base % 128 ≡ 0 → 4 * megabytes ≤ length l → LevelSound l base 0 megabytes → va.0 < limit → (look_in m base va).found ≡ found_by (holder (pages_in megabytes l base) va)
  unfolding walk_from
  walk-finds unit first sound low =
      let i : ℕ = va.0 / 2 ^ 20 in
      ap (λ (a : ℕ). (walk_from (read_in m) first_of va.0 a).found) (first_at_legal base va.0 unit low)
      ∙ ap (λ (r : Option (ℕ × Place)). (after_first (read_in m) first_of va.0 (base + 4 * i) r).found) (lent-read m l base (4 * i) ok at (omega arith))
      ∙ below-found (source_at (base + 4 * i) (place_in m (base + 4 * i))) (first_of (word_at l (4 * i))) (sound i (omega arith) (omega arith))
      ∙ listed_found l base va sound low

pub pages_mean : PagesMean
pages_mean l base k m e ok at =
    let a = (accepted_audited megabytes l base k e).0 in
    let unit : base % 128 ≡ 0 = image-base base (length l) a.memory in
    record {
      finds = λ va low. walk-finds m l base ok at va unit a.first a.level low;
      uniform =
          repeated_uniform (read_in m) first_of base_bits megabytes base limit (omega arith)
          (subst (AllRepeated (read_in m) first_of megabytes) (sym (aligned base unit)) (sound_repeated m l base ok at megabytes a.first a.level));
    }
