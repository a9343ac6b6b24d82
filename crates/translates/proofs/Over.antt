-- The plain walk over any reading of the image. Assumes nothing.
use Rattle.std.proofs.Common.{Result}
use Rattle.walk.specs.declared.Unfound.{Unfound}
use Rattle.walk.specs.declared.Page.{Page}
use Rattle.std.proofs.Common.{None}
use Rattle.std.proofs.Common.{Option, Some}
use Rattle.translates.specs.Names.{◌≡◌, true, List, ℕ, ◌+◌, ◌-◌, ◌≤◌, ◌<◌, VirtualAddress, Source, Reads, Mapping, holder, image_length}
use Rattle.translates.proofs.Names.{refl, sym, ap, ◌∙◌, subst, suc, ◌*◌, ◌/◌, ◌%◌, ◌^◌, arith, virtual, physical, pick_yes, pick_no, Place, Table}
use Rattle.translates.proofs.Names.{Walked, first_of, second_of, walk_from, holds, All, Disjoint, OnHeld, all-holder, table_of, table_size}
use Rattle.translates.proofs.Names.{table_end, table_start, first_by, first_word, step_bits, address_of, page_word, second_word, section_word, in_tables}
use Rattle.translates.proofs.Names.{image_word, end_next, end_last, image-first}
use borrow.Author.Tests.{lt-ltb, le-ltb}
use Rattle.walk.specs.declared.First.{First}
use Rattle.walk.specs.Walk.{coarse_at, fine_at, source_at, after_second, by_first, after_first}
use Rattle.records.proofs.Alls.{all_map2}
use Rattle.records.proofs.Holders.{holds-megabyte, holder-agree}
use Rattle.tables.specs.Tables.{start_after}
use Rattle.tables.proofs.Places.{end-first, end-start, end_4, start_4, size_4}
use Rattle.tables.proofs.Offsets.{in_table}
use Rattle.tables.proofs.Fits.{Fit, fit, KindFits, kinds_fit}
use Rattle.tables.proofs.Regions.{step-le}
use Rattle.translates.proofs.Written.{found_for, Known, fine-found, coarse-found, first_fine, first-coarse, section_found, first_for}

-- a reading has the image's words at base, each where `place` says
abbrev pub Stands : (ℕ → Option (ℕ × Place)) → (ℕ → Place) → ℕ → List Mapping → ℕ → Type 0
Stands rd place n ms base =
    (k : ℕ) → 4 * k + 4 ≤ image_length n ms → rd (base + 4 * k) ≡ Some ((image_word n ms base k), (place (base + 4 * k)))

-- of a list whose accesses are two bits
abbrev pub Narrow : Mapping → Type 0
Narrow m = m.access < 4

-- the mapping that holds an address holds the first address of its word too, and is known
held : (ms : List Mapping) (va a : VirtualAddress) (t : Option Table) → table_of ms (va.0 / 2 ^ 20) ≡ t → a.0 / 2 ^ step_bits t ≡ va.0 / 2 ^ step_bits t → holder ms a ≡ holder ms va
held ms va a t e same = holder-agree (step_bits t) a va (step-le t) same ms (subst (λ (u : Option Table). All (Fit (step_bits u) (va.0 / 2 ^ 20)) ms) e (fit ms (va.0 / 2 ^ 20)))

on-map : (P Q : Mapping → Type 0) → ((m : Mapping) → P m → Q m) → (h : Option Mapping) → OnHeld P h → OnHeld Q h
on-map P Q f (Some m) o = f m o
on-map P Q f None o = tt

known : (ms : List Mapping) → All Narrow ms → Disjoint ms → (va : VirtualAddress) (t : Option Table) → table_of ms (va.0 / 2 ^ 20) ≡ t → OnHeld (Known t) (holder ms va)
known ms narrow apart va t e =
    let i : ℕ = va.0 / 2 ^ 20 in
    let own : All (KindFits t i) ms = subst (λ (u : Option Table). All (KindFits u i) ms) e (kinds_fit ms i apart) in
    let both : All (λ m. Narrow m × KindFits t i m) ms = all_map2 ms (λ m x y. (x, y)) narrow own in
    on-map (λ m. (Narrow m × KindFits t i m) × (holds m va ≡ true)) (Known t)
    (λ m o. (o.0.0, o.0.1 (sym (holds-megabyte m va o.1)))) (holder ms va) (all-holder _ ms va both)

abbrev pub source : (ℕ → Place) → ℕ → Source
source place a = source_at a (place a)

-- the words that the walk reads, by the table of the megabyte: the first-level word, and the table's word for the
-- address
abbrev pub reads_for : (ℕ → Place) → ℕ → ℕ → VirtualAddress → Option Table → Reads
reads_for place base start va (Some Table.Fine) =
    Reads.Two (source place (base + 4 * (va.0 / 2 ^ 20))) (source place (base + (start + 4 * (va.0 / 2 ^ 10 % 2 ^ 10))))
reads_for place base start va (Some Table.Coarse) =
    Reads.Two (source place (base + 4 * (va.0 / 2 ^ 20))) (source place (base + (start + 4 * (va.0 / 2 ^ 12 % 2 ^ 8))))
reads_for place base start va None = Reads.One (source place (base + 4 * (va.0 / 2 ^ 20)))

abbrev pub walked : Result Page Unfound → Reads → Walked
walked f r = record { found = f; reads = r }

-- the words of megabyte i: the first level's, and its table's
module _ (n : ℕ) (ms : List Mapping) (base : ℕ) (rd : ℕ → Option (ℕ × Place)) (place : ℕ → Place) (mem : Stands rd place n ms base) (i : ℕ) (low : i < n) where
  abbrev start : ℕ
  start = table_start n ms i

  pub first_read : rd (base + 4 * i) ≡ Some ((first_word n ms base i), (place (base + 4 * i)))
  unfolding image_word
  first_read =
      mem i (omega (arith, image-first n ms))
      ∙ ap (λ (w : ℕ). Some (w, (place (base + 4 * i)))) (pick_yes _ _ _ (lt-ltb i n low))

  pub table_read : (j : ℕ) → 4 * j < table_size (table_of ms i) → rd (base + (start + 4 * j)) ≡ Some ((second_word ms (table_of ms i) i j), (place (base + (start + 4 * j))))
  unfolding image_word table_start
  table_read j h =
      let lo = end-first n ms i in
      let st = end-start n ms i in
      let en = end_next n ms i in
      let le = end_last n ms (suc i) (omega arith) in
      let al = start_4 (table_of ms i) (table_end n ms i) (end_4 n ms i) in
      let sz = size_4 (table_of ms i) in
      let k : ℕ = (start + 4 * j) / 4 in
      let at : 4 * k ≡ start + 4 * j = omega arith in
      let jj : (start + 4 * j - start) / 4 ≡ j = omega arith in
      subst (λ (o : ℕ). rd (base + o) ≡ Some ((second_word ms (table_of ms i) i j), (place (base + o)))) at
      (mem k (omega arith)
      ∙ ap (λ (w : ℕ). Some (w, (place (base + 4 * k))))
      (pick_no _ _ _ (le-ltb k n (omega arith))
      ∙ ap (in_tables n ms n) at
      ∙ in_table n ms n i (start + 4 * j) low (omega arith) (omega arith)
      ∙ ap (second_word ms (table_of ms i) i) jj))

-- what the first-level word of megabyte i says
module _ (n : ℕ) (ms : List Mapping) (base i : ℕ) where
  pub first-is : (t : Option Table) → table_of ms i ≡ t → first_word n ms base i ≡ first_by t (base + table_start n ms i) (holder ms (virtual (i * 2 ^ 20)))
  unfolding first_word
  first-is t e = ap (λ (u : Option Table). first_by u (base + table_start n ms i) (holder ms (virtual (i * 2 ^ 20)))) e

  module _ (unit : base % 4096 ≡ 0) where
    pub says_fine : table_of ms i ≡ Some Table.Fine → first_of (first_word n ms base i) ≡ First.Fine (physical (base + table_start n ms i))
    unfolding table_start
    says_fine e =
        let unit' : table_start n ms i % 4096 ≡ 0 = ap (λ (u : Option Table). start_after u (table_end n ms i) % 4096) e ∙ omega arith in
        first_fine (first_word n ms base i) (base + table_start n ms i) (first-is (Some Table.Fine) e) (omega arith)

    pub says_coarse : table_of ms i ≡ Some Table.Coarse → first_of (first_word n ms base i) ≡ First.Coarse (physical (base + table_start n ms i))
    unfolding table_start
    says_coarse e =
        let unit' : table_start n ms i % 1024 ≡ 0 = ap (λ (u : Option Table). start_after u (table_end n ms i) % 1024) e ∙ omega arith in
        first-coarse (first_word n ms base i) (base + table_start n ms i) (first-is (Some Table.Coarse) e) (omega arith)

module _ (n : ℕ) (ms : List Mapping) (base : ℕ) (rd : ℕ → Option (ℕ × Place)) (place : ℕ → Place) (mem : Stands rd place n ms base) (narrow : All Narrow ms)
    (apart : Disjoint ms) (unit : base % 4096 ≡ 0) (va : VirtualAddress) (low : va.0 / 2 ^ 20 < n) where
  abbrev mega : ℕ
  mega = va.0 / 2 ^ 20

  abbrev table : ℕ
  table = table_start n ms (va.0 / 2 ^ 20)

  abbrev first : Source
  first = source place (base + 4 * (va.0 / 2 ^ 20))

  begins : walk_from rd first_of va.0 (base + 4 * mega) ≡ by_first rd va.0 first (first_of (first_word n ms base mega))
  unfolding walk_from
  begins = ap (after_first rd first_of va.0 (base + 4 * mega)) (first_read n ms base rd place mem mega low)

  -- the second word, of word j of a table, which stands for the address
  ends : (t : Option Table) (u : Table) (j : ℕ) → table_of ms mega ≡ t → 4 * j < table_size t → (address_of t mega j).0 / 2 ^ step_bits t ≡ va.0 / 2 ^ step_bits t
      → ((h : Option Mapping) → OnHeld (Known t) h → second_of u (page_word h) ≡ found_for h)
      → after_second u first (base + table + 4 * j) (rd (base + table + 4 * j)) ≡ walked (found_for (holder ms va)) (Reads.Two first (source place (base + (table + 4 * j))))
  unfolding second_word
  ends t u j e short same found =
      let at : base + table + 4 * j ≡ base + (table + 4 * j) = omega arith in
      ap (λ (b : ℕ). after_second u first b (rd b)) at
      ∙ ap (after_second u first (base + (table + 4 * j))) (table_read n ms base rd place mem mega low j (subst (λ (v : Option Table). 4 * j < table_size v) (sym e) short))
      ∙ ap (λ (f : Result Page Unfound). walked f (Reads.Two first (source place (base + (table + 4 * j)))))
      (ap (λ (v : Option Table). second_of u (page_word (holder ms (address_of v mega j)))) e
      ∙ ap (λ (h : Option Mapping). second_of u (page_word h)) (held ms va (address_of t mega j) t e same)
      ∙ found (holder ms va) (known ms narrow apart va t e))

  fine : table_of ms mega ≡ Some Table.Fine → walk_from rd first_of va.0 (base + 4 * mega) ≡ walked (found_for (holder ms va)) (reads_for place base table va (Some Table.Fine))
  unfolding fine_at
  fine e =
      begins
      ∙ ap (by_first rd va.0 first) (says_fine n ms base mega unit e)
      ∙ ends (Some Table.Fine) Table.Fine (va.0 / 2 ^ 10 % 2 ^ 10) e (omega arith) (omega arith) fine-found

  coarse : table_of ms mega ≡ Some Table.Coarse → walk_from rd first_of va.0 (base + 4 * mega) ≡ walked (found_for (holder ms va)) (reads_for place base table va (Some Table.Coarse))
  unfolding coarse_at
  coarse e =
      begins
      ∙ ap (by_first rd va.0 first) (says_coarse n ms base mega unit e)
      ∙ ends (Some Table.Coarse) Table.Coarse (va.0 / 2 ^ 12 % 2 ^ 8) e (omega arith) (omega arith) coarse-found

  by_section : (h : Option Mapping) → by_first rd va.0 first (first_for h) ≡ walked (found_for h) (reads_for place base table va None)
  by_section (Some m) = refl
  by_section None = refl

  absent : table_of ms mega ≡ None → walk_from rd first_of va.0 (base + 4 * mega) ≡ walked (found_for (holder ms va)) (reads_for place base table va None)
  absent e =
      let a : VirtualAddress = virtual (mega * 2 ^ 20) in
      let same : a.0 / 2 ^ 20 ≡ va.0 / 2 ^ 20 = omega arith in
      begins
      ∙ ap (λ (w : ℕ). by_first rd va.0 first (first_of w)) (first-is n ms base mega None e ∙ ap section_word (held ms va a None e same))
      ∙ ap (by_first rd va.0 first) (section_found (holder ms va) (known ms narrow apart va None e))
      ∙ by_section (holder ms va)

  -- the walk finds the page of the mapping that holds the address, and reads these words
  pub over : walk_from rd first_of va.0 (base + 4 * (va.0 / 2 ^ 20)) ≡ walked (found_for (holder ms va)) (reads_for place base (table_start n ms (va.0 / 2 ^ 20)) va (table_of ms (va.0 / 2 ^ 20)))
  over = by_table (table_of ms mega) refl
    where
      by_table : (t : Option Table) → table_of ms mega ≡ t → walk_from rd first_of va.0 (base + 4 * mega) ≡ walked (found_for (holder ms va)) (reads_for place base table va t)
      by_table (Some Table.Fine) e = fine e
      by_table (Some Table.Coarse) e = coarse e
      by_table None e = absent e
