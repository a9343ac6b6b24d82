-- The words that the builder writes, as the walk reads them: one law over the number of low bits. Assumes nothing.
use Rattle.std.proofs.Common.{Result, Ok, Err}
use Rattle.walk.specs.declared.Unfound.{Unfound}
use Rattle.std.proofs.Common.{Option, Some, None}
use Rattle.translates.specs.Names.{◌≡◌, ℕ, ◌+◌, ◌-◌, ◌≤◌, ◌<◌, Page, Mapping}
use Rattle.translates.proofs.Names.{refl, sym, ap, ap₂, ◌∙◌, subst, ◌*◌, ◌/◌, ◌%◌, ◌^◌, arith, mod-eq_of_lt, upper, pick, physical, low_bits, Kind}
use Rattle.translates.proofs.Names.{type_of-lt, Table, first_of, second_of, OnHeld, section_word, page_word}
use native.Mathlib.Nat.{add-sub_of_le}
use lib.Pow.{pow_pos, pow-add, high}
use Rattle.page.specs.Words.{type_of}
use Rattle.page.proofs.Slot.{low_bits-ge}
use Rattle.walk.specs.declared.First.{First}
use Rattle.walk.specs.Descriptors.{page_of}
use Rattle.page.proofs.Picks.{bits_01, bits_10, bits_11}
use Rattle.tables.proofs.Fits.{Allows}

-- the fields of a word of q upper-free low bits: type below, access in bits 5:4, the rest above
module _ (q X acc k : ℕ) (h : 10 ≤ q) (ha : acc < 4) (hk : k < 4) where
  abbrev w : ℕ
  w = X * 2 ^ q + 16 * acc + k

  big : X * 2 ^ q ≡ 1024 * (X * 2 ^ (q - 10))
  big = ap (λ (z : ℕ). X * 2 ^ z) (sym (add-sub_of_le h)) ∙ ap (λ (z : ℕ). X * z) (pow-add 2 10 (q - 10)) ∙ omega arith

  small : 16 * acc + k < 2 ^ q
  small =
      subst (λ (z : ℕ). 16 * acc + k < 2 ^ z) (add-sub_of_le h)
      (subst (λ (z : ℕ). 16 * acc + k < z) (sym (pow-add 2 10 (q - 10))) (let one = pow_pos (q - 10) in omega arith))

  pub word_type : w % 4 ≡ k
  word_type = omega (arith, big)

  pub word_access_lem : w / 2 ^ 4 % 4 ≡ acc
  word_access_lem = omega (arith, big)

  pub word_frame : w / 2 ^ q ≡ X
  word_frame =
      ap (λ (z : ℕ). z / 2 ^ q) (let e : w ≡ X * 2 ^ q + (16 * acc + k) = omega arith in e) ∙ high X q small

-- the page of a mapping, and what is found where it may be held by none
abbrev page : Kind → ℕ → ℕ → Page
page k f a = record { kind = k; frame = physical f; access = a }

abbrev pub page_for : Mapping → Page
page_for m = page m.kind (upper (low_bits m.kind) m.to.0) m.access

abbrev pub found_for : Option Mapping → Result Page Unfound
found_for (Some m) = Ok (page_for m)
found_for None = Err Unfound.NoPage

-- a page's word says the page's kind, and is read as the page
pub page_type : (m : Mapping) → page_word (Some m) % 4 ≡ type_of m.kind
unfolding upper
page_type m =
    word_type (low_bits m.kind) (m.to.0 / 2 ^ low_bits m.kind) (m.access % 4) (type_of m.kind) (low_bits-ge m.kind) (omega arith) (type_of-lt m.kind)

page-read : (m : Mapping) → m.access < 4 → page_of m.kind (page_word (Some m)) ≡ page_for m
unfolding upper
page-read m h =
    let q : ℕ = low_bits m.kind in
    let X : ℕ = m.to.0 / 2 ^ q in
    let acc : m.access % 4 < 4 = omega arith in
    ap₂ (page m.kind)
    (ap (λ (z : ℕ). z * 2 ^ q) (word_frame q X (m.access % 4) (type_of m.kind) (low_bits-ge m.kind) acc (type_of-lt m.kind)))
    (word_access_lem q X (m.access % 4) (type_of m.kind) (low_bits-ge m.kind) acc (type_of-lt m.kind) ∙ mod-eq_of_lt h)

-- what is known of the mapping that holds an address of a megabyte with a table
abbrev pub Known : Option Table → Mapping → Type 0
Known t m = (m.access < 4) × Allows t m.kind

-- a word that says a kind which the table has
fine_kind : (k : Kind) (w : ℕ) → Allows (Some Table.Fine) k → w % 4 ≡ type_of k → second_of Table.Fine w ≡ Ok (page_of k w)
unfolding second_of
fine_kind Kind.Section w a e = absurd a
fine_kind Kind.Large w a e = sym (bits_01 _ _ _ _ w e)
fine_kind Kind.Small w a e = sym (bits_10 _ _ _ _ w e)
fine_kind Kind.Tiny w a e = sym (bits_11 _ _ _ _ w (λ q. omega (arith, q, e)) (λ q. omega (arith, q, e)) (λ q. omega (arith, q, e)))

coarse_kind : (k : Kind) (w : ℕ) → Allows (Some Table.Coarse) k → w % 4 ≡ type_of k → second_of Table.Coarse w ≡ Ok (page_of k w)
unfolding second_of
coarse_kind Kind.Section w a e = absurd a
coarse_kind Kind.Large w a e = sym (bits_01 _ _ _ _ w e)
coarse_kind Kind.Small w a e = sym (bits_10 _ _ _ _ w e)
coarse_kind Kind.Tiny w a e = absurd a

-- a second-level word is read as the page of the mapping that holds its address
pub none_found : (u : Table) → second_of u 0 ≡ Err Unfound.NoPage
unfolding second_of pick
none_found u = refl

module _ (t : Option Table) (u : Table) (kinds : (k : Kind) (w : ℕ) → Allows t k → w % 4 ≡ type_of k → second_of u w ≡ Ok (page_of k w)) where
  second-found : (h : Option Mapping) → OnHeld (Known t) h → second_of u (page_word h) ≡ found_for h
  second-found (Some m) o = kinds m.kind (page_word (Some m)) o.1 (page_type m) ∙ ap Ok (page-read m o.0)
  second-found None o = none_found u

pub fine-found : (h : Option Mapping) → OnHeld (Known (Some Table.Fine)) h → second_of Table.Fine (page_word h) ≡ found_for h
fine-found h o = second-found (Some Table.Fine) Table.Fine fine_kind h o

pub coarse-found : (h : Option Mapping) → OnHeld (Known (Some Table.Coarse)) h → second_of Table.Coarse (page_word h) ≡ found_for h
coarse-found h o = second-found (Some Table.Coarse) Table.Coarse coarse_kind h o

-- the words of the first level: a table's address, a section, or none
pub first_fine : (w b : ℕ) → w ≡ b + 3 → b % 4096 ≡ 0 → first_of w ≡ First.Fine (physical b)
unfolding first_of upper
first_fine w b e h =
    sym (bits_11 _ _ _ _ w (λ q. omega (arith, q)) (λ q. omega (arith, q)) (λ q. omega (arith, q)))
    ∙ ap (λ (z : ℕ). First.Fine (physical z)) (let z : w / 2 ^ 12 * 2 ^ 12 ≡ b = omega arith in z)

pub first-coarse : (w b : ℕ) → w ≡ b + 1 → b % 1024 ≡ 0 → first_of w ≡ First.Coarse (physical b)
unfolding first_of upper
first-coarse w b e h =
    sym (bits_01 _ _ _ _ w (let z : w % 4 ≡ 1 = omega arith in z))
    ∙ ap (λ (z : ℕ). First.Coarse (physical z)) (let z : w / 2 ^ 10 * 2 ^ 10 ≡ b = omega arith in z)

abbrev pub first_for : Option Mapping → First
first_for (Some m) = First.Whole (page_for m)
first_for None = First.Fault

whole : (k : Kind) → Allows None k → k ≡ Kind.Section
whole Kind.Section h = refl
whole Kind.Large h = absurd h
whole Kind.Small h = absurd h
whole Kind.Tiny h = absurd h

section_is : (X acc w : ℕ) → acc < 4 → w ≡ X * 2 ^ 20 + 1024 * (acc % 4) + 2 → first_of w ≡ First.Whole (page Kind.Section (X * 2 ^ 20) acc)
unfolding first_of upper
section_is X acc w h e =
    sym (bits_10 _ _ _ _ w (let z : w % 4 ≡ 2 = omega arith in z))
    ∙ ap₂ (λ (f a : ℕ). First.Whole (page Kind.Section f a)) (let z : w / 2 ^ 20 * 2 ^ 20 ≡ X * 2 ^ 20 = omega arith in z) (let z : w / 2 ^ 10 % 4 ≡ acc = omega arith in z)

pub section_found : (h : Option Mapping) → OnHeld (Known None) h → first_of (section_word h) ≡ first_for h
unfolding first_of pick upper
section_found (Some m) o =
    section_is (m.to.0 / 2 ^ 20) m.access _ o.0 refl
    ∙ ap (λ (k : Kind). First.Whole (page k (upper (low_bits k) m.to.0) m.access)) (sym (whole m.kind o.1))
section_found None o = refl
