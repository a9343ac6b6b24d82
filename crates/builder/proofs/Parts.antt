-- The image with one mapping more written. Assumes nothing.
use Rattle.std.proofs.Common.{None}
use Rattle.walk.specs.declared.Table.{Table}
use Rattle.std.proofs.Common.{Option, Some}
use Rattle.builder.specs.Names.{◌≡◌, Bool, List, [], ◌++◌, ℕ, zero, suc, ◌+◌, ◌*◌, ◌-◌, ◌/◌, ◌%◌, ◌^◌, ◌≤◌, ◌<◌, eqb, length, get_or, drop, pick}
use Rattle.builder.specs.Names.{virtual, megabytes, Mapping, holder, table_of, table_size, table_end, table_start, image_length}
use Rattle.builder.specs.Names.{first_by, page_word, second_word, word_in, words_in, image_word, spliced}
use Rattle.builder.proofs.Names.{refl, sym, ap, ap₂, ◌∙◌, subst, true, false, arith, ℕ_discrete, eq-eqb, ne_eqb, lt-ltb, le-ltb, low_bits}
use Rattle.builder.proofs.Names.{pick_yes, pick_no, and_yes, and_no, and_left, and_right, low_bits-le, end-first, end_4, start_4, first_word}
use Rattle.builder.proofs.Names.{step_bits, image, part_word, spliced_same, Firsts, based}
use mathlib.Core.List.{◌∷◌}
use native.Mathlib.Decide.{dec_le}
use borrow.Author.Tests.{le-leb, lt-leb, ltb-true, leb-true}
use native.Mathlib.Numerals.{add-one}
use lib.ListN.{drop_of_length-le}
use lib.Seq.{drop-cons}
use Rattle.records.specs.Mappings.{holds, no_mapping}
use Rattle.page.proofs.Lower.{agree_up}
use Rattle.records.proofs.Alls.{all_at}
use Rattle.tables.proofs.Places.{end-start, end_next, end-le, image_4, image-first}
use Rattle.tables.specs.Words.{section_word, in_tables}
use Rattle.tables.proofs.Fits.{Fit, fit}
use Rattle.tables.proofs.Regions.{second_in, second_out, held-end}
use Rattle.builder.specs.Parts.{part_tables, Turned}
use Rattle.wire.proofs.Splices.{spliced_twice}
use Rattle.builder.proofs.Whole.{front}
use Rattle.builder.proofs.Levels.{based_by}

-- a choice, of two values that are equal where they are chosen
pick_same : (b : Bool) (x y u v : ℕ) → (b ≡ true → x ≡ u) → y ≡ v → pick b x y ≡ pick b u v
pick_same true x y u v f e = pick_yes true x y refl ∙ f refl ∙ sym (pick_yes true u v refl)
pick_same false x y u v f e = pick_no false x y refl ∙ e ∙ sym (pick_no false u v refl)

pick-both : (b : Bool) (x : ℕ) → pick b x x ≡ x
pick-both true x = pick_yes true x x refl
pick-both false x = pick_no false x x refl

-- a word of a table lies below the megabyte's end, and a region's words inside the table
short_in : (t : Option Table) (x : ℕ) → 4 * x < table_size t → x * 2 ^ step_bits t < 2 ^ 20
short_in (Some Table.Fine) x h = omega arith
short_in (Some Table.Coarse) x h = omega arith
short_in None x h = absurd (omega arith)

ends_in : (t : Option Table) (x : ℕ) → (table_size t ≡ 0 → ⊥) → x * 2 ^ step_bits t ≤ 2 ^ 20 → 4 * x ≤ table_size t
ends_in (Some Table.Fine) x z h = omega arith
ends_in (Some Table.Coarse) x z h = omega arith
ends_in None x z h = absurd (z refl)

-- what the first-level word of a megabyte says where the holder does not matter
first-level : (t : Option Table) (at : ℕ) (h k : Option Mapping) → (t ≡ None → h ≡ k) → first_by t at h ≡ first_by t at k
first-level (Some Table.Fine) at h k f = refl
first-level (Some Table.Coarse) at h k f = refl
first-level None at h k f = ap section_word (f refl)

off_mega : (m : Mapping) (k : ℕ) → (m.at.0 / 2 ^ 20 ≡ k → ⊥) → holds m (virtual (k * 2 ^ 20)) ≡ false
unfolding holds
off_mega m k ne =
    ne_eqb (k * 2 ^ 20 / 2 ^ low_bits m.kind) (m.at.0 / 2 ^ low_bits m.kind)
    (λ e. ne (sym (agree_up (low_bits m.kind) 20 (k * 2 ^ 20) m.at.0 (low_bits-le m.kind) e) ∙ (let z : k * 2 ^ 20 / 2 ^ 20 ≡ k = omega arith in z)))

on_mega : (m : Mapping) (k : ℕ) → m.at.0 / 2 ^ 20 ≡ k → 20 ≤ low_bits m.kind → holds m (virtual (k * 2 ^ 20)) ≡ true
unfolding holds
on_mega m k e h =
    let b : low_bits m.kind ≡ 20 = omega (arith, low_bits-le m.kind) in
    subst (λ (n : ℕ). eqb (k * 2 ^ 20 / 2 ^ n) (m.at.0 / 2 ^ n) ≡ true) (sym b) (eq-eqb _ _ (let z : k * 2 ^ 20 / 2 ^ 20 ≡ m.at.0 / 2 ^ 20 = omega arith in z))

no_words : (t : Option Table) (i : ℕ) (m : Mapping) → (m.at.0 / 2 ^ 20 ≡ i → ⊥) → words_in t i m ≡ 0
unfolding words_in
no_words t i m ne = pick_no _ _ _ (ne_eqb _ _ ne)

-- the table of no mappings is zero
second_none : (t : Option Table) (mb j : ℕ) → second_word [] t mb j ≡ 0
unfolding second_word holder
second_none t mb j = refl

module _ (n : ℕ) (all : List Mapping) where
  -- all mappings written
  whole-tables : (i o : ℕ) → part_tables n all all i o ≡ in_tables n all i o
  unfolding part_tables in_tables
  whole-tables zero o = refl
  whole-tables (suc i) o = pick_same _ _ _ _ _ (λ _. refl) (whole-tables i o)

  pub part_whole : (base k : ℕ) → part_word n all all base k ≡ image_word n all base k
  unfolding part_word image_word first_word
  part_whole base k = pick_same _ _ _ _ _ (λ _. refl) (whole-tables n (4 * k))

  -- none written: the tables are zero
  none-tables : (i o : ℕ) → part_tables n all [] i o ≡ 0
  unfolding part_tables
  none-tables zero o = refl
  none-tables (suc i) o = pick_same _ _ _ 0 0 (λ _. second_none (table_of all i) i ((o - table_start n all i) / 4)) (none-tables i o) ∙ pick-both _ 0

  pub part_none : (base k : ℕ) → n ≤ k → part_word n all [] base k ≡ 0
  unfolding part_word
  part_none base k h = pick_no _ _ _ (le-ltb k n h) ∙ none-tables n (4 * k)

  -- words of the tables that two lists write alike
  tables_same : (ms ns : List Mapping) (i o : ℕ)
      → ((j : ℕ) → j < i → table_start n all j ≤ o → o < table_end n all (suc j)
      → second_word ms (table_of all j) j ((o - table_start n all j) / 4) ≡ second_word ns (table_of all j) j ((o - table_start n all j) / 4))
      → part_tables n all ms i o ≡ part_tables n all ns i o
  unfolding part_tables
  tables_same ms ns zero o f = refl
  tables_same ms ns (suc i) o f =
      pick_same _ _ _ _ _
      (λ e. f i (omega arith) (leb-true _ _ (and_left _ _ e)) (ltb-true _ _ (and_right _ _ e)))
      (tables_same ms ns i o (λ j h. f j (omega arith)))

  -- the word at an offset inside megabyte i's table is that table's
  in_part : (ms : List Mapping) (k i o : ℕ) → i < k → table_start n all i ≤ o → o < table_end n all (suc i)
      → part_tables n all ms k o ≡ second_word ms (table_of all i) i ((o - table_start n all i) / 4)
  unfolding part_tables
  in_part ms zero i o h lo hi = absurd (omega arith)
  in_part ms (suc k) i o h lo hi = elim (dec_le k i) [
    | yes g ↦
        subst (λ (j : ℕ). part_tables n all ms (suc j) o ≡ second_word ms (table_of all i) i ((o - table_start n all i) / 4)) (let e : i ≡ k = omega arith in e)
        (pick_yes _ _ _ (and_yes _ _ (le-leb _ _ lo) ∙ lt-ltb _ _ hi))
    | no g ↦
        pick_no _ _ _ (and_no _ _ (lt-leb (table_start n all k) o (omega (arith, end-le n all (suc i) k (omega arith), end-start n all k))))
        ∙ in_part ms k i o (omega arith) lo hi
  ]

-- one mapping more
module _ (n : ℕ) (all ms : List Mapping) (m : Mapping) (base : ℕ) (fits : (i : ℕ) → Fit (step_bits (table_of all i)) i m) where
  -- a word that is none of its words
  pub part_same : (k : ℕ) → (k < n → table_of all k ≡ None → holds m (virtual (k * 2 ^ 20)) ≡ false)
      → ((i : ℕ) → i < n → table_start n all i ≤ 4 * k → 4 * k < table_end n all (suc i)
      → (word_in (table_of all i) m ≤ (4 * k - table_start n all i) / 4) × ((4 * k - table_start n all i) / 4 < word_in (table_of all i) m + words_in (table_of all i) i m) → ⊥)
      → part_word n all ms base k ≡ part_word n all (m ∷ ms) base k
  unfolding part_word holder
  part_same k first out =
      pick_same _ _ _ _ _
      (λ e. first-level (table_of all k) _ _ _ (λ t. sym (pick_no _ _ _ (first (ltb-true _ _ e) t))))
      (tables_same n all ms (m ∷ ms) n (4 * k) (λ i h lo hi.
      sym (second_out (table_of all i) i ((4 * k - table_start n all i) / 4) m (fits i) (short_in (table_of all i) _ (omega (arith, end_next n all i))) ms (out i h lo hi))))

  -- a mapping past the megabytes changes no word
  pub part_past : (k : ℕ) → n ≤ m.at.0 / 2 ^ 20 → part_word n all ms base k ≡ part_word n all (m ∷ ms) base k
  part_past k h =
      part_same k (λ l _. off_mega m k (λ e. omega arith))
      (λ i l lo hi p. let z = no_words (table_of all i) i m (λ e. omega arith) in omega (arith, p.0, p.1))

  module _ (mb : ℕ) (mb-lt : mb < n) (here : m.at.0 / 2 ^ 20 ≡ mb) where
    -- a megabyte with no table: its first-level word
    pub part_section : table_of all mb ≡ None → (k : ℕ) → k ≡ mb → section_word (Some m) ≡ part_word n all (m ∷ ms) base k
    unfolding part_word holder
    part_section t k e =
        sym
        (pick_yes _ _ _ (lt-ltb k n (omega arith))
        ∙ ap₂ (λ (u : Option Table) (x : ℕ). first_by u (base + table_start n all k) (pick (holds m (virtual (x * 2 ^ 20))) (Some m) (holder ms (virtual (x * 2 ^ 20))))) (ap (table_of all) e ∙ t) e
        ∙ ap section_word (pick_yes _ _ _ (on_mega m mb here (subst (λ (u : Option Table). step_bits u ≤ low_bits m.kind) t (fits mb here)))))

    pub part_other : table_of all mb ≡ None → (k : ℕ) → (k ≡ mb → ⊥) → part_word n all ms base k ≡ part_word n all (m ∷ ms) base k
    part_other t k ne =
        part_same k (λ l _. off_mega m k (λ e. ne (sym e ∙ here)))
        (λ i l lo hi p. elim (ℕ_discrete i mb) [
          | yes e ↦
              let z : table_size (table_of all i) ≡ 0 = ap table_size (ap (table_of all) e ∙ t) in
              omega (arith, end_next n all i)
          | no g ↦ let z = no_words (table_of all i) i m (λ e. g (sym e ∙ here)) in omega (arith, p.0, p.1)
        ])

    -- a megabyte with a table: the words of the mapping's region, from word x on
    module _ (some : table_size (table_of all mb) ≡ 0 → ⊥) where
      abbrev t : Option Table
      t = table_of all mb

      abbrev x : ℕ
      x = table_start n all mb / 4 + word_in t m

      aligned : (table_start n all mb % 4 ≡ 0) × (4 * n ≤ table_start n all mb)
      unfolding table_start
      aligned = (start_4 (table_of all mb) (table_end n all mb) (end_4 n all mb), (let a = end-first n all mb in let b = end-start n all mb in omega arith))

      inside : 4 * (word_in t m + words_in t mb m) ≤ table_size t
      inside = ends_in t (word_in t m + words_in t mb m) some (held-end t mb 0 m (fits mb) (omega arith))

      pub part_over : (j : ℕ) → x ≤ j → j < x + words_in t mb m → page_word (Some m) ≡ part_word n all (m ∷ ms) base j
      unfolding part_word
      part_over j lo hi =
          let a = aligned in
          let w : (4 * j - table_start n all mb) / 4 ≡ word_in t m + (j - x) = omega arith in
          sym
          (pick_no _ _ _ (le-ltb j n (omega arith))
          ∙ in_part n all (m ∷ ms) n mb (4 * j) mb-lt (omega arith) (omega (arith, end_next n all mb, inside))
          ∙ ap (second_word (m ∷ ms) t mb) w
          ∙ second_in t mb (word_in t m + (j - x)) m (fits mb) (short_in t _ (omega (arith, inside))) ms (omega arith) (omega arith))

      -- word j of the image is one of the mapping's words in megabyte k's table
      abbrev Among : ℕ → ℕ → Type 0
      Among k j =
          (word_in (table_of all k) m ≤ (4 * j - table_start n all k) / 4)
          × ((4 * j - table_start n all k) / 4 < word_in (table_of all k) m + words_in (table_of all k) k m)

      pub part_beside : (j : ℕ) → (x ≤ j → j < x + words_in t mb m → ⊥) → part_word n all ms base j ≡ part_word n all (m ∷ ms) base j
      part_beside j out =
          part_same j
          (λ l e. off_mega m j (λ g. some (ap table_size (ap (table_of all) (sym here ∙ g) ∙ e))))
          (λ i l lo hi p. elim (ℕ_discrete i mb) [
            | yes e ↦
                let q : Among mb j = subst (λ (k : ℕ). Among k j) e p in
                let v : table_start n all mb ≤ 4 * j = subst (λ (k : ℕ). table_start n all k ≤ 4 * j) e lo in
                let a = aligned in
                out (omega (arith, q.0)) (omega (arith, q.1))
            | no g ↦ let z = no_words (table_of all i) i m (λ e. g (sym e ∙ here)) in omega (arith, p.0, p.1)
          ])

-- the memory with one mapping more written
module _ (n : ℕ) (all ms : List Mapping) (m : Mapping) (base : ℕ) (fits : (i : ℕ) → Fit (step_bits (table_of all i)) i m) (l : List ℕ) (room : image_length n all ≤ length l) where
  abbrev words : ℕ
  words = image_length n all / 4

  pub turned_past : n ≤ m.at.0 / 2 ^ 20 → spliced l 0 (part_word n all ms base) words ≡ spliced l 0 (part_word n all (m ∷ ms) base) words
  turned_past h = spliced_same l 0 words _ _ (omega arith) (λ k _. part_past n all ms m base fits k h)

  module _ (mb : ℕ) (mb-lt : mb < n) (here : m.at.0 / 2 ^ 20 ≡ mb) where
    image-ends : (4 * n ≤ image_length n all) × (table_end n all (suc mb) ≤ image_length n all) × (image_length n all % 4 ≡ 0)
    unfolding image_length
    image-ends = (end-first n all n, end-le n all (suc mb) n (omega arith), end_4 n all n)

    pub turned_section : (w : ℕ) → w ≡ section_word (Some m) → table_of all mb ≡ None
        → spliced (spliced l 0 (part_word n all ms base) words) (4 * mb) (λ (_ : ℕ). w) 1 ≡ spliced l 0 (part_word n all (m ∷ ms) base) words
    turned_section w e t =
        let p = image-ends in
        ap (λ (a : ℕ). spliced (spliced l 0 (part_word n all ms base) words) a (λ (_ : ℕ). w) 1) (let z : 4 * mb ≡ 0 + 4 * mb = omega arith in z)
        ∙ spliced_twice l 0 words mb 1 words (part_word n all ms base) (λ (_ : ℕ). w) (part_word n all (m ∷ ms) base) (omega arith) (omega arith) (omega arith)
        (λ j c d. e ∙ part_section n all ms m base fits mb mb-lt here t j (omega arith))
        (λ j c. (omega arith, part_other n all ms m base fits mb mb-lt here t j (λ z. omega arith)))
        (λ j c d. (d, part_other n all ms m base fits mb mb-lt here t j (λ z. omega arith)))

    pub turned_page : (table_size (table_of all mb) ≡ 0 → ⊥)
        → spliced (spliced l 0 (part_word n all ms base) words) (table_start n all mb + 4 * word_in (table_of all mb) m)
        (λ (_ : ℕ). page_word (Some m)) (words_in (table_of all mb) mb m)
        ≡ spliced l 0 (part_word n all (m ∷ ms) base) words
    turned_page some =
        let p = image-ends in
        let a = aligned n all ms m base fits mb mb-lt here some in
        let i = inside n all ms m base fits mb mb-lt here some in
        let start : ℕ = table_start n all mb / 4 + word_in (table_of all mb) m in
        let z : table_start n all mb + 4 * word_in (table_of all mb) m ≡ 0 + 4 * (table_start n all mb / 4 + word_in (table_of all mb) m) = omega arith in
        ap (λ (b : ℕ). spliced (spliced l 0 (part_word n all ms base) words) b
        (λ (_ : ℕ). page_word (Some m)) (words_in (table_of all mb) mb m)) z
        ∙ spliced_twice l 0 words (table_start n all mb / 4 + word_in (table_of all mb) m) (words_in (table_of all mb) mb m) words (part_word n all ms base) _ (part_word n all (m ∷ ms) base)
        (omega arith) (omega arith) (omega (arith, end_next n all mb))
        (λ j c d. part_over n all ms m base fits mb mb-lt here some j c d)
        (λ j c. (omega (arith, end_next n all mb), part_beside n all ms m base fits mb mb-lt here some j (λ x y. omega arith)))
        (λ j c d. (d, part_beside n all ms m base fits mb mb-lt here some j (λ x y. omega arith)))

-- as the code has it: mapping j of the list, what it found of it, and the memory before
module _ (ms : List Mapping) (j : ℕ) (m : Mapping) (q : m ≡ get_or ms j no_mapping) (j-lt : j < length ms) (o : List ℕ) (room : image_length megabytes ms ≤ length o) where
  fits_all : (i : ℕ) → Fit (step_bits (table_of ms i)) i m
  fits_all i = subst (Fit (step_bits (table_of ms i)) i) (sym q) (all_at (Fit (step_bits (table_of ms i)) i) ms j (fit ms i) j-lt)

  next : m ∷ drop (j + 1) ms ≡ drop j ms
  next = sym (drop-cons ms j no_mapping j-lt ∙ ap₂ (λ (x : Mapping) (i : ℕ). x ∷ drop i ms) (sym q) (sym (add-one j)))

  done : (base : ℕ) (l after : List ℕ) → after ≡ spliced l 0 (part_word megabytes ms (m ∷ drop (j + 1) ms) base) (image_length megabytes ms / 4)
      → after ≡ spliced l 0 (part_word megabytes ms (drop j ms) base) (image_length megabytes ms / 4)
  done base l after e = e ∙ ap (λ (d : List Mapping). spliced l 0 (part_word megabytes ms d base) (image_length megabytes ms / 4)) next

  pub mapping_past : megabytes ≤ m.at.0 / 2 ^ 20 → Turned ms j o o
  mapping_past h base l len e = done base l o (e ∙ turned_past megabytes ms (drop (j + 1) ms) m base fits_all l (omega arith) h)

  module _ (mb : ℕ) (mb-lt : mb < megabytes) (here : m.at.0 / 2 ^ 20 ≡ mb) (t : Option Table) (table : t ≡ table_of ms mb) where
    no_table : (u : Option Table) → table_size u ≡ 0 → u ≡ None
    no_table (Some Table.Fine) e = absurd (omega arith)
    no_table (Some Table.Coarse) e = absurd (omega arith)
    no_table None e = refl

    pub mapping_section : (w : ℕ) (after : List ℕ) → w ≡ section_word (Some m) → table_size t ≡ 0 → after ≡ spliced o (4 * mb) (λ (_ : ℕ). w) 1 → Turned ms j o after
    mapping_section w after e z f base l len g =
        done base l after
        (f
        ∙ ap (λ (d : List ℕ). spliced d (4 * mb) (λ (_ : ℕ). w) 1) g
        ∙ turned_section megabytes ms (drop (j + 1) ms) m base fits_all l (omega arith) mb mb-lt here w e (sym table ∙ no_table t z))

    pub mapping-page : (s : ℕ) (after : List ℕ) → s ≡ table_start megabytes ms mb → (table_size t ≡ 0 → ⊥)
        → after ≡ spliced o (s + 4 * word_in t m) (λ (_ : ℕ). page_word (Some m)) (words_in t mb m) → Turned ms j o after
    mapping-page s after b some f base l len g =
        done base l after
        (f
        ∙ ap₂ (λ (d : List ℕ) (a : ℕ). spliced d (a + 4 * word_in t m) (λ (_ : ℕ). page_word (Some m)) (words_in t mb m)) g b
        ∙ ap (λ (u : Option Table). spliced (spliced l 0 (part_word megabytes ms (drop (j + 1) ms) base) (image_length megabytes ms / 4)) (table_start megabytes ms mb + 4 * word_in u m)
        (λ (_ : ℕ). page_word (Some m)) (words_in u mb m)) table
        ∙ turned_page megabytes ms (drop (j + 1) ms) m base fits_all l (omega arith) mb mb-lt here (λ z. some (ap table_size table ∙ z)))

-- the words before any mapping is written
pub first-none : (ms : List Mapping) (firsts : List ℕ) (base k : ℕ) → k < megabytes → Firsts ms firsts → based base (get_or firsts k 0) ≡ part_word megabytes ms [] base k
unfolding part_word holder
first-none ms firsts base k lt f =
    ap (based base) (f k lt) ∙ based_by base (table_start megabytes ms k) (table_of ms k) ∙ sym (pick_yes _ _ _ (lt-ltb k megabytes lt))

pub image-begun : (n : ℕ) (ms : List Mapping) (base : ℕ) (l o p : List ℕ) → image_length n ms ≤ length l → o ≡ spliced l 0 (λ (_ : ℕ). 0) (image_length n ms / 4)
    → p ≡ spliced o 0 (part_word n ms [] base) n → p ≡ spliced l 0 (part_word n ms [] base) (image_length n ms / 4)
image-begun n ms base l o p room e f =
    let a = image-first n ms in
    let b = image_4 n ms in
    f
    ∙ ap₂ (λ (d : List ℕ) (x : ℕ). spliced d x (part_word n ms [] base) n) e (let z : 0 ≡ 0 + 4 * 0 = omega arith in z)
    ∙ spliced_twice l 0 (image_length n ms / 4) 0 n (image_length n ms / 4) (λ (_ : ℕ). 0) (part_word n ms [] base) (part_word n ms [] base) (omega arith) (omega arith) (omega arith)
    (λ j c d. ap (part_word n ms [] base) (let z : j - 0 ≡ j = omega arith in z))
    (λ j c. absurd (omega arith))
    (λ j c d. (d, sym (part_none n ms base j (omega arith))))

pub image-done : (n : ℕ) (ms : List Mapping) (base : ℕ) (l o : List ℕ) → image_length n ms ≤ length l → o ≡ spliced l 0 (part_word n ms ms base) (image_length n ms / 4)
    → o ≡ image n ms base ++ drop (image_length n ms) l
image-done n ms base l o room e =
    e ∙ spliced_same l 0 (image_length n ms / 4) _ _ (omega arith) (λ k _. part_whole n ms base k) ∙ front n ms base l room

-- the loop over the mappings, before it and after it
pub filled-start : (ms : List Mapping) (base j : ℕ) (l o : List ℕ) → length ms ≤ j → o ≡ spliced l 0 (part_word megabytes ms [] base) (image_length megabytes ms / 4)
    → o ≡ spliced l 0 (part_word megabytes ms (drop j ms) base) (image_length megabytes ms / 4)
filled-start ms base j l o h e = e ∙ ap (λ (d : List Mapping). spliced l 0 (part_word megabytes ms d base) (image_length megabytes ms / 4)) (sym (drop_of_length-le ms {i = j} h))

pub filled-end : (ms : List Mapping) (base j : ℕ) (l o : List ℕ) → j ≡ 0 → o ≡ spliced l 0 (part_word megabytes ms (drop j ms) base) (image_length megabytes ms / 4)
    → o ≡ spliced l 0 (part_word megabytes ms ms base) (image_length megabytes ms / 4)
filled-end ms base j l o z e = e ∙ ap (λ (i : ℕ). spliced l 0 (part_word megabytes ms (drop i ms) base) (image_length megabytes ms / 4)) z
