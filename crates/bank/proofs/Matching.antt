-- A search of the spans of slots in range finds what a search of the slots finds. Assumes nothing.
use Rattle.std.proofs.Common.{Option, Some}
use Rattle.bank.specs.Names.{◌≡◌, Bool, List, ℕ, zero, suc, ◌+◌, ◌*◌, ◌/◌, ◌%◌, ◌<◌, eqb, leb, get_or, pick, VirtualAddress, cams_ok}
use Rattle.bank.proofs.Names.{refl, sym, ◌∙◌, ap, ap₂, subst, true, false, ◌≤◌, arith, eqb-true, eqb-false, eq-eqb, ne_eqb, ltb-true, pick_yes}
use Rattle.bank.proofs.Names.{pick_no, and_yes, and_left, and_right, cam_ok, low_of, high_of, in_span, sought_from, sought, Ends}
use Prim.Native.Nat.{◌^◌}
use borrow.Author.Tests.{leb-true, le-leb, lt-leb}
use Rattle.page.specs.Words.{low_bits, kind_of, word_matches}
use Rattle.page.specs.declared.Kind.{Kind}
use Rattle.page.proofs.Picks.{and_no}
use Rattle.page.proofs.Slot.{kind_of_type}
use Rattle.lanes.specs.Lanes.{all_from, looked_from, looked_up}
use Rattle.bank.proofs.Ends.{by_1, by_2}

-- two tests that hold together are one
same : (p q : Bool) → (p ≡ true → q ≡ true) → (q ≡ true → p ≡ true) → p ≡ q
same true true f g = refl
same false false f g = refl
same true false f g = sym (f refl)
same false true f g = g refl

spanned : (low high x a b : ℕ) → (low ≤ x → x ≤ high → a ≡ b) → (a ≡ b → (low ≤ x) × (x ≤ high)) → in_span low high x ≡ eqb a b
spanned low high x a b f g = same (in_span low high x) (eqb a b)
    (λ h. eq-eqb a b (f (leb-true low x (and_left _ _ h)) (leb-true x high (and_right _ _ h))))
    (λ h. let k = g (eqb-true a b h) in and_yes _ _ (le-leb low x k.0) ∙ le-leb x high k.1)

-- a span of each type has a number exactly where the address agrees with the tag
module _ (w v : ℕ) (small : w < 262144) (virtual : v < 16777216) where
  section : in_span (w / 16384 % 16 * 1024) (w / 16384 % 16 * 1024 + 1023) (v / 1024 % 16384) ≡ eqb (v / 2 ^ 20) (w / 16 * 2 ^ 10 / 2 ^ 20)
  section = spanned (w / 16384 % 16 * 1024) (w / 16384 % 16 * 1024 + 1023) (v / 1024 % 16384) (v / 2 ^ 20) (w / 16 * 2 ^ 10 / 2 ^ 20) (λ a b. omega arith) (λ e. (omega arith, omega arith))

  large : in_span (w / 1024 % 256 * 64) (w / 1024 % 256 * 64 + 63) (v / 1024 % 16384) ≡ eqb (v / 2 ^ 16) (w / 16 * 2 ^ 10 / 2 ^ 16)
  large = spanned (w / 1024 % 256 * 64) (w / 1024 % 256 * 64 + 63) (v / 1024 % 16384) (v / 2 ^ 16) (w / 16 * 2 ^ 10 / 2 ^ 16) (λ a b. omega arith) (λ e. (omega arith, omega arith))

  small_page : in_span (w / 64 % 4096 * 4) (w / 64 % 4096 * 4 + 3) (v / 1024 % 16384) ≡ eqb (v / 2 ^ 12) (w / 16 * 2 ^ 10 / 2 ^ 12)
  small_page = spanned (w / 64 % 4096 * 4) (w / 64 % 4096 * 4 + 3) (v / 1024 % 16384) (v / 2 ^ 12) (w / 16 * 2 ^ 10 / 2 ^ 12) (λ a b. omega arith) (λ e. (omega arith, omega arith))

  tiny : in_span (w / 16 % 16384) (w / 16 % 16384) (v / 1024 % 16384) ≡ eqb (v / 2 ^ 10) (w / 16 * 2 ^ 10 / 2 ^ 10)
  tiny = spanned (w / 16 % 16384) (w / 16 % 16384) (v / 1024 % 16384) (v / 2 ^ 10) (w / 16 * 2 ^ 10 / 2 ^ 10) (λ a b. omega arith) (λ e. (omega arith, omega arith))

  -- the span of a word's type
  abbrev Typed : ℕ → ℕ → ℕ → Type 0
  Typed low high k = in_span low high (v / 1024 % 16384) ≡ eqb (v / 2 ^ k) (w / 16 * 2 ^ 10 / 2 ^ k)

  by_kind : (k : Kind) → kind_of w ≡ k → (low high : ℕ) → Typed low high (low_bits k) → eqb (w / 4 % 2) 1 ≡ true → low_of w ≡ low → high_of w ≡ high
      → in_span (low_of w) (high_of w) (v / 1024 % 16384) ≡ word_matches w (record { 0 = v })
  unfolding word_matches
  by_kind k e low high t ok a b =
      ap₂ (λ (x y : ℕ). in_span x y (v / 1024 % 16384)) a b ∙ t
      ∙ ap (λ (x : Kind). eqb (v / 2 ^ low_bits x) (w / 16 * 2 ^ 10 / 2 ^ low_bits x)) (sym e)
      ∙ sym (and_yes _ _ ok)

  valid-one : eqb (w / 4 % 2) 0 ≡ false → eqb (w / 4 % 2) 1 ≡ true
  valid-one h = eq-eqb (w / 4 % 2) 1 (let q = eqb-false (w / 4 % 2) 0 h in omega (arith, q))

  none : eqb (w / 4 % 2) 0 ≡ true → in_span (low_of w) (high_of w) (v / 1024 % 16384) ≡ word_matches w (record { 0 = v })
  unfolding word_matches low_of
  none h =
      let e = eqb-true (w / 4 % 2) 0 h in
      let n : v / 1024 % 16384 < 16384 = omega arith in
      and_no _ _ (ap (λ (x : ℕ). leb x (v / 1024 % 16384)) (pick_yes _ _ _ h) ∙ lt-leb 16384 (v / 1024 % 16384) n)
      ∙ sym (and_no _ _ (ne_eqb (w / 4 % 2) 1 (λ q. omega (arith, q, e))))

  some : eqb (w / 4 % 2) 0 ≡ false → in_span (low_of w) (high_of w) (v / 1024 % 16384) ≡ word_matches w (record { 0 = v })
  unfolding low_of high_of
  some h = zeroth (eqb (w % 4) 0) refl
    where
      third : (t : Bool) → eqb (w % 4) 2 ≡ t → eqb (w % 4) 1 ≡ false → eqb (w % 4) 0 ≡ false → in_span (low_of w) (high_of w) (v / 1024 % 16384) ≡ word_matches w (record { 0 = v })
      third true e f g =
          let k = eqb-true (w % 4) 2 e in by_kind Kind.Small (kind_of_type w Kind.Small k) _ _ small_page (valid-one h) (pick_no _ _ _ h ∙ by_2 w _ _ _ _ k) (pick_no _ _ _ h ∙ by_2 w _ _ _ _ k)
      third false e f g =
          let k : w % 4 ≡ 3 = omega (arith, eqb-false (w % 4) 2 e, eqb-false (w % 4) 1 f, eqb-false (w % 4) 0 g) in
          by_kind Kind.Tiny (kind_of_type w Kind.Tiny k) _ _ tiny (valid-one h) (pick_no _ _ _ h ∙ pick_no _ _ _ g ∙ pick_no _ _ _ f ∙ pick_no _ _ _ e)
          (pick_no _ _ _ h ∙ pick_no _ _ _ g ∙ pick_no _ _ _ f ∙ pick_no _ _ _ e)

      first : (t : Bool) → eqb (w % 4) 1 ≡ t → eqb (w % 4) 0 ≡ false → in_span (low_of w) (high_of w) (v / 1024 % 16384) ≡ word_matches w (record { 0 = v })
      first true e g = let k = eqb-true (w % 4) 1 e in by_kind Kind.Large (kind_of_type w Kind.Large k) _ _ large (valid-one h) (pick_no _ _ _ h ∙ by_1 w _ _ _ _ k) (pick_no _ _ _ h ∙ by_1 w _ _ _ _ k)
      first false e g = third (eqb (w % 4) 2) refl e g

      zeroth : (t : Bool) → eqb (w % 4) 0 ≡ t → in_span (low_of w) (high_of w) (v / 1024 % 16384) ≡ word_matches w (record { 0 = v })
      zeroth true e = by_kind Kind.Section (kind_of_type w Kind.Section (eqb-true (w % 4) 0 e)) _ _ section (valid-one h) (pick_no _ _ _ h ∙ pick_yes _ _ _ e) (pick_no _ _ _ h ∙ pick_yes _ _ _ e)
      zeroth false e = first (eqb (w % 4) 1) refl e

  pub span-matches : in_span (low_of w) (high_of w) (v / 1024 % 16384) ≡ word_matches w (record { 0 = v })
  span-matches = by (eqb (w / 4 % 2) 0) refl
    where
      by : (t : Bool) → eqb (w / 4 % 2) 0 ≡ t → in_span (low_of w) (high_of w) (v / 1024 % 16384) ≡ word_matches w (record { 0 = v })
      by true h = none h
      by false h = some h

-- the search of spans is the search of slots
module _ (cam lows highs : List ℕ) (va : VirtualAddress) (virtual : va.0 < 16777216) where
  sought_from_lem : (n i : ℕ) → ((j : ℕ) → i ≤ j → j < i + n → get_or cam j 0 < 262144) → ((j : ℕ) → i ≤ j → j < i + n → get_or lows j 0 ≡ low_of (get_or cam j 0))
      → ((j : ℕ) → i ≤ j → j < i + n → get_or highs j 0 ≡ high_of (get_or cam j 0))
      → sought_from n i lows highs (va.0 / 1024 % 16384) ≡ looked_from n i cam va
  unfolding sought_from looked_from
  sought_from_lem zero i c l h = refl
  sought_from_lem (suc n) i c l h =
      ap₂ (λ (t : Bool) (m : Option ℕ). pick t (Some i) m)
      (ap₂ (λ (x y : ℕ). in_span x y (va.0 / 1024 % 16384)) (l i (omega arith) (omega arith)) (h i (omega arith) (omega arith))
      ∙ span-matches (get_or cam i 0) va.0 (c i (omega arith) (omega arith)) virtual)
      (sought_from_lem n (i + 1) (λ j a b. c j (omega arith) (omega arith)) (λ j a b. l j (omega arith) (omega arith)) (λ j a b. h j (omega arith) (omega arith)))

  cams-from : (n i : ℕ) → all_from (cam_ok 262144) n i cam ≡ true → (j : ℕ) → i ≤ j → j < i + n → get_or cam j 0 < 262144
  unfolding all_from
  cams-from zero i e j a b = absurd (omega arith)
  cams-from (suc n) i e j a b = at (eqb j i) refl (cams-from n (i + 1) (and_right _ _ e) j)
    where
      at : (t : Bool) → eqb j i ≡ t → (i + 1 ≤ j → j < i + 1 + n → get_or cam j 0 < 262144) → get_or cam j 0 < 262144
      at true q later = subst (λ (x : ℕ). get_or cam x 0 < 262144) (sym (eqb-true j i q)) (ltb-true _ _ (and_left _ _ e))
      at false q later = later (let k = eqb-false j i q in omega (arith, k)) (omega arith)

  pub sought_looked : cams_ok 262144 cam ≡ true → Ends low_of 32 cam lows → Ends high_of 32 cam highs → sought lows highs (va.0 / 1024 % 16384) ≡ looked_up cam va
  sought_looked c l h = sought_from_lem 32 0 (cams-from 32 0 c) (λ j a b. l j (omega arith)) (λ j a b. h j (omega arith))
