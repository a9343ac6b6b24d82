-- What the descriptors give. Assumes nothing.
use Rattle.std.proofs.Common.{Result, Ok, Err}
use Rattle.walk.specs.declared.Unfound.{Unfound}
use Rattle.walk.specs.Names.{◌≡◌, false, ℕ, ◌/◌, ◌%◌, ◌^◌, ◌<◌, low_bits, Kind, VirtualAddress, Page, First, Table}
use Rattle.walk.proofs.Names.{refl, sym, ◌∙◌, subst, arith, ne_eqb, pick_no, first_of, page_of, second_of, physical_of, Room}
use Rattle.walk.proofs.Names.{ProperFirst, Proper, is_missing}
use lib.Dec.{lit≤, lit<}
use borrow.Author.Tests.{eqb-true, eqb-false}
use Rattle.page.specs.Words.{type_of}
use Prim.Native.Nat.{◌≤◌}
use Rattle.page.proofs.Picks.{pick_by}
use Rattle.page.proofs.Lower.{upper_lt, upper-upper, joined_low, joined_high}
use Rattle.walk.specs.Descriptors.{section_of, tiny_in}
use Rattle.walk.specs.Distances.{ProperPage}
use Rattle.walk.specs.Repeated.{word_bits}

-- in a coarse table a word that is neither large nor small is no page
pub coarse-none : (w : ℕ) → (w % 4 ≡ 1 → ⊥) → (w % 4 ≡ 2 → ⊥) → Err Unfound.NoPage ≡ second_of Table.Coarse w
unfolding second_of
coarse-none w x y =
    pick_by (λ (f : Result Page Unfound). Err Unfound.NoPage ≡ f) _ _ _ (λ _. refl)
    (λ _. sym (pick_no _ _ _ (ne_eqb _ _ x) ∙ pick_no _ _ _ (ne_eqb _ _ y)))

word_bits_lem : (t : Table) → word_bits t ≤ 12
word_bits_lem Table.Coarse = lit≤ tt
word_bits_lem Table.Fine = lit≤ tt

-- what holds of no page, and of the page of each kind that a word may say in a table, holds of what it says
module _ (P : Result Page Unfound → Type 0) (w : ℕ) (none : P (Err Unfound.NoPage)) where
  abbrev Pages : Table → Type 0
  Pages t = (k : Kind) → word_bits t ≤ low_bits k → w % 4 ≡ type_of k → P (Ok (page_of k w))

  tiny_by : (t : Table) → Pages t → w % 4 ≡ 3 → P (tiny_in t w)
  tiny_by Table.Coarse page e = none
  tiny_by Table.Fine page e = page Kind.Tiny (lit≤ tt) e

  pub second_by : (t : Table) → Pages t → P (second_of t w)
  unfolding second_of
  second_by t page =
      pick_by P _ _ _ (λ _. none)
      (λ x. pick_by P _ _ _ (λ y. page Kind.Large (omega (arith, word_bits_lem t)) (eqb-true _ _ y))
      (λ y. pick_by P _ _ _ (λ z. page Kind.Small (word_bits_lem t) (eqb-true _ _ z))
      (λ z. tiny_by t page (omega (arith, eqb-false (w % 4) 0 x, eqb-false (w % 4) 1 y, eqb-false (w % 4) 2 z)))))

-- a page has at least the addresses of a word of its table, and the word says its kind by its two lowest bits
abbrev PageSaid : Table → ℕ → Result Page Unfound → Type 0
PageSaid t w (Ok p) = (word_bits t ≤ low_bits p.kind) × (w % 4 ≡ type_of p.kind)
PageSaid t w (Err Unfound.NoPage) = Unit
PageSaid t w (Err Unfound.Missing) = Unit

pub second_says : (t : Table) (w : ℕ) (p : Page) → second_of t w ≡ Ok p → (word_bits t ≤ low_bits p.kind) × (w % 4 ≡ type_of p.kind)
second_says t w p e = subst (PageSaid t w) e (second_by (PageSaid t w) w tt t (λ k h e. (h, e)))

-- a first-level word's table ends below 2^32
pub room : (w : ℕ) → w < 2 ^ 32 → Room (first_of w)
unfolding first_of
room w h =
    pick_by Room _ _ _ (λ _. tt)
    (λ _. pick_by Room _ _ _ (λ _. upper_lt 10 22 w 1023 h (lit< tt))
    (λ _. pick_by Room _ _ _ (λ _. tt) (λ _. upper_lt 12 20 w 4095 h (lit< tt))))

-- a descriptor's page starts at its frame and has two bits of access
section_proper : (w : ℕ) → ProperPage (section_of w)
section_proper w = (omega arith, upper-upper 20 w)

page-proper : (k : Kind) (w : ℕ) → ProperPage (page_of k w)
page-proper k w = (omega arith, upper-upper (low_bits k) w)

pub first-proper : (w : ℕ) → ProperFirst (first_of w)
unfolding first_of
first-proper w =
    pick_by ProperFirst _ _ _ (λ _. tt)
    (λ _. pick_by ProperFirst _ _ _ (λ _. tt)
    (λ _. pick_by ProperFirst _ _ _ (λ _. section_proper w) (λ _. tt)))

pub second-proper : (t : Table) (w : ℕ) → Proper (second_of t w)
second-proper t w = second_by Proper w tt t (λ k _ _. page-proper k w)

-- a physical address has the address's lower bits and the page's upper ones, at every page size
module _ (p : Page) (va : VirtualAddress) where
  pub physical_low : (physical_of p va).0 % 2 ^ low_bits p.kind ≡ va.0 % 2 ^ low_bits p.kind
  physical_low = joined_low (low_bits p.kind) p.frame.0 va.0

  pub physical_high : (physical_of p va).0 / 2 ^ low_bits p.kind ≡ p.frame.0 / 2 ^ low_bits p.kind
  physical_high = joined_high (low_bits p.kind) p.frame.0 va.0

-- a second-level word is not missing
pub second-there : (t : Table) (w : ℕ) → false ≡ is_missing (second_of t w)
second-there t w = second_by (λ (f : Result Page Unfound). false ≡ is_missing f) w refl t (λ _ _ _. refl)

-- a first-level word that gives a page gives a section
abbrev pub SectionFirst : First → Type 0
SectionFirst First.Fault = Unit
SectionFirst (First.Whole p) = p.kind ≡ Kind.Section
SectionFirst (First.Coarse t) = Unit
SectionFirst (First.Fine t) = Unit

pub first_section : (w : ℕ) → SectionFirst (first_of w)
unfolding first_of
first_section w =
    pick_by SectionFirst _ _ _ (λ _. tt)
    (λ _. pick_by SectionFirst _ _ _ (λ _. tt)
    (λ _. pick_by SectionFirst _ _ _ (λ _. refl) (λ _. tt)))
