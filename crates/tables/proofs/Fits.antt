-- A megabyte's table is fine enough for each of its pages, and has pages of their kinds. Assumes nothing.
use Rattle.std.proofs.Common.{Option, Some, None}
use Rattle.walk.specs.declared.Table.{Table}
use Rattle.tables.specs.Names.{◌≡◌, Bool, false, List, ℕ, ◌/◌, ◌^◌, ◌or◌, eqb, low_bits, type_of, Kind, Mapping, has_kind}
use Rattle.tables.proofs.Names.{refl, sym, ◌∙◌, subst, true, true≢false, ◌∷◌, ◌≤◌, arith, lit≤, eq-eqb, and_yes, table_of, step_bits}
use mathlib.Core.List.{[]}
use borrow.Author.Tests.{eqb-true}
use Rattle.page.proofs.Picks.{and_left, and_right, or_no, pick_by}
use Rattle.page.proofs.Slot.{low_bits-ge}
use Rattle.records.proofs.Accepted.{Disjoint, neither}
use Rattle.records.proofs.Alls.{All, all_map, all_map2, every}
use Rattle.records.proofs.Holders.{own, both_hold}
use Rattle.records.specs.Mappings.{holds, overlap}
use Rattle.records.specs.Noted.{is_in}

-- a mapping of megabyte i leaves s low bits at least
abbrev pub Fit : ℕ → ℕ → Mapping → Type 0
Fit s i m = m.at.0 / 2 ^ 20 ≡ i → s ≤ low_bits m.kind

-- no mapping of megabyte i is of kind k
abbrev Free : ℕ → Kind → Mapping → Type 0
Free i k m = m.at.0 / 2 ^ 20 ≡ i → type_of m.kind ≡ type_of k → ⊥

free : (ms : List Mapping) (i : ℕ) (k : Kind) → has_kind ms i k ≡ false → All (Free i k) ms
unfolding has_kind
free [] i k e = tt
free (m ∷ ms) i k e =
    let o = neither (is_in i k m) (has_kind ms i k) e in
    ((λ v q. true≢false (sym (and_yes _ _ (eq-eqb _ _ v) ∙ eq-eqb _ _ q) ∙ o.0)), free ms i k o.1)

-- a page that is not tiny leaves 12 bits at least, one that is neither tiny, large nor small 20
low_12 : (k : Kind) → (type_of k ≡ type_of Kind.Tiny → ⊥) → 12 ≤ low_bits k
low_12 Kind.Section n = lit≤ tt
low_12 Kind.Large n = lit≤ tt
low_12 Kind.Small n = lit≤ tt
low_12 Kind.Tiny n = absurd (n refl)

low_20 : (k : Kind) → (type_of k ≡ type_of Kind.Tiny → ⊥) → (type_of k ≡ type_of Kind.Large → ⊥) → (type_of k ≡ type_of Kind.Small → ⊥) → 20 ≤ low_bits k
low_20 Kind.Section n l s = lit≤ tt
low_20 Kind.Large n l s = absurd (l refl)
low_20 Kind.Small n l s = absurd (s refl)
low_20 Kind.Tiny n l s = absurd (n refl)

-- no mapping of megabyte i is of one of three kinds
none_of : (ms : List Mapping) (i : ℕ) → has_kind ms i Kind.Tiny ≡ false → (has_kind ms i Kind.Large or has_kind ms i Kind.Small) ≡ false
    → All (λ m. Free i Kind.Tiny m × Free i Kind.Large m × Free i Kind.Small m) ms
none_of ms i tiny other =
    let o = neither _ _ other in
    let both : All (λ m. Free i Kind.Large m × Free i Kind.Small m) ms = all_map2 ms (λ m x y. (x, y)) (free ms i Kind.Large o.0) (free ms i Kind.Small o.1) in
    all_map2 ms (λ m x y. (x, y.0, y.1)) (free ms i Kind.Tiny tiny) both

pub fit : (ms : List Mapping) (i : ℕ) → All (Fit (step_bits (table_of ms i)) i) ms
unfolding table_of
fit ms i =
    pick_by (λ t. All (Fit (step_bits t) i) ms) _ _ _ (λ _. every ms (λ m _. low_bits-ge m.kind))
    (λ tiny. pick_by (λ t. All (Fit (step_bits t) i) ms) _ _ _ (λ _. all_map ms (λ m n v. low_12 m.kind (n v)) (free ms i Kind.Tiny tiny))
    (λ other. all_map ms (λ m n v. low_20 m.kind (n.0 v) (n.1 v) (n.2 v)) (none_of ms i tiny other)))

-- a section lies over every other page of its megabyte
section_bits : (k : Kind) → type_of k ≡ type_of Kind.Section → low_bits k ≡ 20
section_bits Kind.Section e = refl
section_bits Kind.Large e = absurd (omega arith)
section_bits Kind.Small e = absurd (omega arith)
section_bits Kind.Tiny e = absurd (omega arith)

section_over : (x m : Mapping) (i : ℕ) → x.at.0 / 2 ^ 20 ≡ i → type_of x.kind ≡ type_of Kind.Section → m.at.0 / 2 ^ 20 ≡ i → holds x m.at ≡ true
unfolding holds
section_over x m i a s b =
    subst (λ (n : ℕ). eqb (m.at.0 / 2 ^ n) (x.at.0 / 2 ^ n) ≡ true) (sym (section_bits x.kind s)) (eq-eqb _ _ (b ∙ sym a))

-- so in a list without overlaps a megabyte that holds another page holds no section
module _ (i : ℕ) (k : Kind) where
  none-behind : (x : Mapping) (ms : List Mapping) → x.at.0 / 2 ^ 20 ≡ i → type_of x.kind ≡ type_of Kind.Section → All (λ m. overlap x m ≡ false) ms → has_kind ms i k ≡ true → ⊥
  unfolding has_kind
  none-behind x [] a s d e = true≢false (sym e)
  none-behind x (m ∷ ms) a s d e = by_first_lem (none-behind x ms a s d.1) (is_in i k m) refl
    where
      by_first_lem : (has_kind ms i k ≡ true → ⊥) → (b : Bool) → is_in i k m ≡ b → ⊥
      by_first_lem r true t = true≢false (sym (both_hold x m m.at (section_over x m i a s (eqb-true _ _ (and_left _ _ t))) (own m)) ∙ d.0)
      by_first_lem r false t = r (sym (or_no _ _ t) ∙ e)

  no_section : (ms : List Mapping) → Disjoint ms → (type_of k ≡ type_of Kind.Section → ⊥) → has_kind ms i k ≡ true → All (Free i Kind.Section) ms
  unfolding has_kind
  no_section [] d z e = tt
  no_section (m ∷ ms) d z e = by_first_lem (no_section ms d.1 z) (is_in i k m) refl
    where
      by_first_lem : (has_kind ms i k ≡ true → All (Free i Kind.Section) ms) → (b : Bool) → is_in i k m ≡ b → Free i Kind.Section m × All (Free i Kind.Section) ms
      by_first_lem r true t = (
        (λ v s. z (sym (eqb-true _ _ (and_right _ _ t)) ∙ s)),
        all_map ms (λ x o v s. true≢false (sym (both_hold m x m.at (own m) (section_over x m i v s (eqb-true _ _ (and_left _ _ t)))) ∙ o)) d.0,
      )
      by_first_lem r false t = let h = sym (or_no _ _ t) ∙ e in ((λ v s. none-behind m ms v s d.0 h), r h)

-- the kinds of page that a table has; at the first level stand sections
abbrev pub Allows : Option Table → Kind → Type 0
Allows (Some Table.Fine) Kind.Section = ⊥
Allows (Some Table.Fine) Kind.Large = Unit
Allows (Some Table.Fine) Kind.Small = Unit
Allows (Some Table.Fine) Kind.Tiny = Unit
Allows (Some Table.Coarse) Kind.Section = ⊥
Allows (Some Table.Coarse) Kind.Large = Unit
Allows (Some Table.Coarse) Kind.Small = Unit
Allows (Some Table.Coarse) Kind.Tiny = ⊥
Allows None Kind.Section = Unit
Allows None Kind.Large = ⊥
Allows None Kind.Small = ⊥
Allows None Kind.Tiny = ⊥

-- a mapping of megabyte i is of a kind that a table has
abbrev pub KindFits : Option Table → ℕ → Mapping → Type 0
KindFits t i m = m.at.0 / 2 ^ 20 ≡ i → Allows t m.kind

fine_allows : (k : Kind) → (type_of k ≡ type_of Kind.Section → ⊥) → Allows (Some Table.Fine) k
fine_allows Kind.Section s = s refl
fine_allows Kind.Large s = tt
fine_allows Kind.Small s = tt
fine_allows Kind.Tiny s = tt

coarse_allows : (k : Kind) → (type_of k ≡ type_of Kind.Tiny → ⊥) → (type_of k ≡ type_of Kind.Section → ⊥) → Allows (Some Table.Coarse) k
coarse_allows Kind.Section n s = s refl
coarse_allows Kind.Large n s = tt
coarse_allows Kind.Small n s = tt
coarse_allows Kind.Tiny n s = n refl

absent_allows : (k : Kind) → 20 ≤ low_bits k → Allows None k
absent_allows Kind.Section h = tt
absent_allows Kind.Large h = omega arith
absent_allows Kind.Small h = omega arith
absent_allows Kind.Tiny h = omega arith

-- each mapping of a list without overlaps is of a kind that its megabyte's table has
pub kinds_fit : (ms : List Mapping) (i : ℕ) → Disjoint ms → All (KindFits (table_of ms i) i) ms
unfolding table_of
kinds_fit ms i d =
    pick_by (λ t. All (KindFits t i) ms) _ _ _ (λ tiny. all_map ms (λ m s v. fine_allows m.kind (s v)) (no_section i Kind.Tiny ms d (λ e. omega (arith, e)) tiny))
    (λ tiny. pick_by (λ t. All (KindFits t i) ms) _ _ _
    (λ other. all_map2 ms (λ m n s v. coarse_allows m.kind (n v) (s v)) (free ms i Kind.Tiny tiny) (either (has_kind ms i Kind.Large) refl other))
    (λ other. all_map ms (λ m n v. absent_allows m.kind (low_20 m.kind (n.0 v) (n.1 v) (n.2 v))) (none_of ms i tiny other)))
  where
    either : (b : Bool) → has_kind ms i Kind.Large ≡ b → (b or has_kind ms i Kind.Small) ≡ true → All (Free i Kind.Section) ms
    either true l e = no_section i Kind.Large ms d (λ q. omega (arith, q)) l
    either false l e = no_section i Kind.Small ms d (λ q. omega (arith, q)) (sym (or_no false _ refl) ∙ e)
