-- In the image of a list without overlaps each word stands equal over its whole group. Assumes nothing.
use Rattle.std.proofs.Common.{Ok}
use Rattle.std.proofs.Common.{None}
use Rattle.std.proofs.Common.{Option, Some}
use Rattle.translates.specs.Names.{◌≡◌, true, List, ℕ, ◌+◌, ◌-◌, ◌<◌, VirtualAddress, Page, Mapping, holder}
use Rattle.translates.proofs.Names.{refl, sym, ap, ◌∙◌, subst, ◌*◌, ◌/◌, ◌%◌, ◌^◌, arith, upper, low_bits, Kind, low_bits-le, Place, Table}
use Rattle.translates.proofs.Names.{first_of, second_of, holds, Disjoint, OnHeld, all-holder, table_of, table_size, table_start, first_word}
use Rattle.translates.proofs.Names.{step_bits, address_of, page_word, section_word, second_word, pick, virtual}
use Rattle.page.proofs.Slot.{kind_of_type}
use Rattle.walk.specs.declared.First.{First}
use Rattle.walk.specs.Statements.{bare}
use Rattle.walk.specs.Repeated.{word_bits, index_limit, repeats, found_in, Repeated, RepeatedBelow, RepeatedAfter, AllRepeated}
use Rattle.page.proofs.Picks.{bits_10}
use Rattle.walk.proofs.Laws.{second_says}
use Rattle.walk.proofs.Repeats.{one-page}
use Rattle.records.proofs.Alls.{every}
use Rattle.records.proofs.Holders.{holder_same, holds_over}
use Rattle.translates.proofs.Written.{page_type, none_found}
use Rattle.translates.proofs.Over.{Stands, first_read, table_read, first-is, says_fine, says_coarse}

-- word j of a table of megabyte i stands for addresses of that megabyte, and they are indexed by j
index_of : (t : Option Table) (i j : ℕ) → 4 * j < table_size t → ((address_of t i j).0 / 2 ^ 20 ≡ i) × ((address_of t i j).0 / 2 ^ step_bits t % 2 ^ (20 - step_bits t) ≡ j)
index_of (Some Table.Fine) i j h = (omega arith, omega arith)
index_of (Some Table.Coarse) i j h = (omega arith, omega arith)
index_of None i j h = absurd (omega arith)

-- a table of the builder's and the walk's kind of table for it
abbrev SameTable : Option Table → Table → Type 0
SameTable t u = (step_bits t ≡ word_bits u) × (table_size t ≡ 4 * index_limit u)

module _ (ms : List Mapping) (apart : Disjoint ms) (t : Option Table) (u : Table) (is : SameTable t u) (i j j' : ℕ) (p : Page) (short : 4 * j < table_size t) (short' : 4 * j' < table_size t)
    (same : j' / repeats u p.kind ≡ j / repeats u p.kind) where
  abbrev a : VirtualAddress
  a = address_of t i j

  abbrev a' : VirtualAddress
  a' = address_of t i j'

  -- two words of a group that says a page stand for addresses of that page
  in_page : second_of u (page_word (holder ms a)) ≡ Ok p → a'.0 / 2 ^ low_bits p.kind ≡ a.0 / 2 ^ low_bits p.kind
  in_page e =
      let x = index_of t i j short in
      let y = index_of t i j' short' in
      one-page (word_bits u) (low_bits p.kind) (second_says u _ p e).0 (low_bits-le p.kind) a'.0 a.0 (y.0 ∙ sym x.0)
      (ap (λ (k : ℕ). k / repeats u p.kind) (at a' j' y.1) ∙ same ∙ ap (λ (k : ℕ). k / repeats u p.kind) (sym (at a j x.1)))
    where
      at : (b : VirtualAddress) (k : ℕ) → b.0 / 2 ^ step_bits t % 2 ^ (20 - step_bits t) ≡ k → b.0 / 2 ^ word_bits u % 2 ^ (20 - word_bits u) ≡ k
      at b k e = subst (λ (s : ℕ). b.0 / 2 ^ s % 2 ^ (20 - s) ≡ k) is.0 e

  -- so they are held by the same mapping
  same_holder : (h : Option Mapping) → holder ms a ≡ h → second_of u (page_word h) ≡ Ok p → holder ms a' ≡ h
  same_holder (Some m) e f =
      let kind : m.kind ≡ p.kind = sym (kind_of_type _ m.kind (page_type m)) ∙ kind_of_type _ p.kind (second_says u _ p f).1 in
      let here : holds m a ≡ true = (subst (OnHeld (λ x. Unit × (holds x a ≡ true))) e (all-holder (λ _. Unit) ms a (every ms (λ _. tt)))).1 in
      let page : a'.0 / 2 ^ low_bits p.kind ≡ a.0 / 2 ^ low_bits p.kind = in_page (ap (λ (h : Option Mapping). second_of u (page_word h)) e ∙ f) in
      holder_same ms a a' m apart e (holds_over m a a' (subst (λ (k : Kind). a.0 / 2 ^ low_bits k ≡ a'.0 / 2 ^ low_bits k) (sym kind) (sym page)) here)
  same_holder None e f = let z : ◌≡◌ {A = ℕ} 0 1 = cc (none_found u) in absurd (omega arith)

  pub same_word : second_of u (second_word ms t i j) ≡ Ok p → second_word ms t i j' ≡ second_word ms t i j
  unfolding second_word
  same_word e = ap page_word (same_holder (holder ms a) refl e)

-- a section's word, and that of none, name no table: what holds of these two holds of what they say
pub no_table : (P : First → Type 0) → P First.Fault → ((p : Page) → P (First.Whole p)) → (h : Option Mapping) → P (first_of (section_word h))
unfolding first_of upper pick
no_table P none whole (Some m) = subst P (bits_10 _ _ _ _ (section_word (Some m)) (omega arith)) (whole _)
no_table P none whole None = none

-- read back from any reading that has the image
module _ (n : ℕ) (ms : List Mapping) (base : ℕ) (rd : ℕ → Option (ℕ × Place)) (place : ℕ → Place) (mem : Stands rd place n ms base) (apart : Disjoint ms) (unit : base % 4096 ≡ 0)
    (i : ℕ) (low : i < n) where
  read_at_lem : (t : Option Table) (j : ℕ) → table_of ms i ≡ t → 4 * j < table_size t
      → rd (base + table_start n ms i + 4 * j) ≡ Some ((second_word ms t i j), (place (base + (table_start n ms i + 4 * j))))
  read_at_lem t j e h =
      ap rd (let z : base + table_start n ms i + 4 * j ≡ base + (table_start n ms i + 4 * j) = omega arith in z)
      ∙ table_read n ms base rd place mem i low j (subst (λ (v : Option Table). 4 * j < table_size v) (sym e) h)
      ∙ ap (λ (v : Option Table). Some ((second_word ms v i j), (place (base + (table_start n ms i + 4 * j))))) e

  repeated : (t : Option Table) (u : Table) → SameTable t u → table_of ms i ≡ t → Repeated rd u (base + table_start n ms i)
  repeated t u is e j j' p l l' said same =
      let h : 4 * j < table_size t = omega (arith, is.1) in
      let h' : 4 * j' < table_size t = omega (arith, is.1) in
      ap bare (read_at_lem t j' e h')
      ∙ ap (λ (w : ℕ). bare (Some (w, (place 0))))
      (same_word ms apart t u is i j j' p h h' same (sym (ap (found_in u) (read_at_lem t j e h)) ∙ said))
      ∙ sym (ap bare (read_at_lem t j e h))

  below : (t : Option Table) → table_of ms i ≡ t → RepeatedBelow rd (first_of (first_word n ms base i))
  below (Some Table.Fine) e = subst (RepeatedBelow rd) (sym (says_fine n ms base i unit e)) (repeated (Some Table.Fine) Table.Fine (refl, refl) e)
  below (Some Table.Coarse) e = subst (RepeatedBelow rd) (sym (says_coarse n ms base i unit e)) (repeated (Some Table.Coarse) Table.Coarse (refl, refl) e)
  below None e = subst (λ (w : ℕ). RepeatedBelow rd (first_of w)) (sym (first-is n ms base i None e)) (no_table (RepeatedBelow rd) tt (λ _. tt) (holder ms (virtual (i * 2 ^ 20))))

  after : RepeatedAfter rd first_of (rd (base + 4 * i))
  after = subst (RepeatedAfter rd first_of) (sym (first_read n ms base rd place mem i low)) (below (table_of ms i) refl)

pub image_repeated : (n : ℕ) (ms : List Mapping) (base : ℕ) (rd : ℕ → Option (ℕ × Place)) (place : ℕ → Place) → Stands rd place n ms base → Disjoint ms → base % 4096 ≡ 0
    → AllRepeated rd first_of n base
image_repeated n ms base rd place mem apart unit i low = after n ms base rd place mem apart unit i low
