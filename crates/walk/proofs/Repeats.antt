-- Repeated words: where each word stands equal over its group, a walk that finds a page finds it at every address of
-- that page. Assumes nothing.
use Rattle.memory.specs.declared.Place.{Place}
use Rattle.std.proofs.Common.{Ok, Option, Some, None}
use Rattle.walk.specs.Names.{◌≡◌, ℕ, ◌+◌, ◌*◌, ◌-◌, ◌/◌, ◌%◌, ◌^◌, ◌<◌, upper, low_bits, Kind, Page, First, Source, Table}
use Rattle.walk.proofs.Names.{refl, sym, ap, ap₂, ◌∙◌, arith, coarse_at, fine_at, first_at, after_second, by_first, after_first, source_at, walk_from}
use Prim.Native.Nat.{◌≤◌}
use native.Mathlib.Nat.{mod-lt}
use lib.Pow.{field, shr-shr, split, pow_pos}
use Rattle.page.proofs.Lower.{agree_up}
use Rattle.page.proofs.Slot.{low_bits-le}
use Rattle.walk.specs.Statements.{bare}
use Rattle.walk.specs.Uniform.{Uniform}
use Rattle.walk.proofs.Laws.{second_says}
use Rattle.walk.specs.Repeated.{word_bits, index_limit, repeats, found_in, Repeated, RepeatedBelow, RepeatedAfter, AllRepeated}

-- a table whose words leave s low bits alone: two addresses lie in one page of n low bits exactly where they lie in one
-- megabyte and their words in one aligned group of 2^(n - s). This is the fact about repeated words, over how many
-- there are.
module _ (s n : ℕ) (sn : s ≤ n) (n20 : n ≤ 20) where
  abbrev group_of : ℕ → ℕ
  group_of x = x / 2 ^ s % 2 ^ (20 - s) / 2 ^ (n - s)

  group : (x : ℕ) → group_of x ≡ x / 2 ^ n % 2 ^ (20 - n)
  group x =
      ap (λ (z : ℕ). x / 2 ^ s % 2 ^ z / 2 ^ (n - s)) (let e : 20 - s ≡ 20 - n + (n - s) = omega arith in e)
      ∙ field (x / 2 ^ s) (20 - n) (n - s)
      ∙ ap (λ (z : ℕ). z % 2 ^ (20 - n)) (shr-shr x s (n - s) ∙ ap (λ (z : ℕ). x / 2 ^ z) (let e : s + (n - s) ≡ n = omega arith in e))

  pub one_group : (x y : ℕ) → x / 2 ^ n ≡ y / 2 ^ n → group_of x ≡ group_of y
  one_group x y e = group x ∙ ap (λ (z : ℕ). z % 2 ^ (20 - n)) e ∙ sym (group y)

  pub one-page : (x y : ℕ) → x / 2 ^ 20 ≡ y / 2 ^ 20 → group_of x ≡ group_of y → x / 2 ^ n ≡ y / 2 ^ n
  one-page x y e g =
      sym (split (x / 2 ^ n) (20 - n))
      ∙ ap₂ (λ (a b : ℕ). a * 2 ^ (20 - n) + b) (top x ∙ e ∙ sym (top y)) (sym (group x) ∙ g ∙ group y)
      ∙ split (y / 2 ^ n) (20 - n)
    where
      top : (z : ℕ) → z / 2 ^ n / 2 ^ (20 - n) ≡ z / 2 ^ 20
      top z = shr-shr z n (20 - n) ∙ ap (λ (k : ℕ). z / 2 ^ k) (let e : n + (20 - n) ≡ 20 = omega arith in e)

-- a page has at least the addresses of the word that says it
found_bits : (t : Table) (r : Option (ℕ × Place)) (p : Page) → found_in t r ≡ Ok p → word_bits t ≤ low_bits p.kind
found_bits t None p e = let z : ◌≡◌ {A = ℕ} 0 1 = cc in absurd (omega arith)
found_bits t (Some (w, q)) p e = (second_says t w p e).0

-- what a word says does not depend on where it lies
found-bare : (t : Table) (r : Option (ℕ × Place)) → found_in t (bare r) ≡ found_in t r
found-bare t None = refl
found-bare t (Some (w, p)) = refl

pub found-second : (t : Table) (s : Source) (b : ℕ) (r : Option (ℕ × Place)) → (after_second t s b r).found ≡ found_in t r
found-second t s b None = refl
found-second t s b (Some (w, p)) = refl

-- the same page is found at every address of it
module _ (rd : ℕ → Option (ℕ × Place)) (va va' : ℕ) (p : Page) (same : va' / 2 ^ low_bits p.kind ≡ va / 2 ^ low_bits p.kind) where
  abbrev word_for : Table → ℕ → ℕ
  word_for t x = x / 2 ^ word_bits t % index_limit t

  abbrev read : Table → ℕ → ℕ → Option (ℕ × Place)
  read t at x = rd (at + 4 * word_for t x)

  in_table : (t : Table) (at : ℕ) → Repeated rd t at → found_in t (read t at va) ≡ Ok p → found_in t (read t at va') ≡ Ok p
  in_table t at rep e =
      sym (found-bare t (read t at va'))
      ∙ ap (found_in t)
      (rep (word_for t va) (word_for t va') p (mod-lt _ (pow_pos (20 - word_bits t))) (mod-lt _ (pow_pos (20 - word_bits t))) e
      (one_group (word_bits t) (low_bits p.kind) (found_bits t (read t at va) p e) (low_bits-le p.kind) va' va same))
      ∙ found-bare t (read t at va)
      ∙ e

  below : (s s' : Source) (d : First) → RepeatedBelow rd d → (by_first rd va s d).found ≡ Ok p → (by_first rd va' s' d).found ≡ Ok p
  unfolding coarse_at fine_at
  below s s' First.Fault rep e = e
  below s s' (First.Whole q) rep e = e
  below s s' (First.Coarse t) rep e =
      found-second Table.Coarse s' _ (read Table.Coarse t.0 va') ∙ in_table Table.Coarse t.0 rep (sym (found-second Table.Coarse s _ (read Table.Coarse t.0 va)) ∙ e)
  below s s' (First.Fine t) rep e =
      found-second Table.Fine s' _ (read Table.Fine t.0 va') ∙ in_table Table.Fine t.0 rep (sym (found-second Table.Fine s _ (read Table.Fine t.0 va)) ∙ e)

  after : (dec : ℕ → First) (a : ℕ) (r : Option (ℕ × Place)) → RepeatedAfter rd dec r → (after_first rd dec va a r).found ≡ Ok p → (after_first rd dec va' a r).found ≡ Ok p
  after dec a None rep e = e
  after dec a (Some (w, q)) rep e = below (source_at a q) (source_at a q) (dec w) rep e

-- so a walk from a base over words that are repeated is uniform, whatever words they are and whoever wrote them
pub repeated_uniform : (rd : ℕ → Option (ℕ × Place)) (dec : ℕ → First) (j n base end : ℕ) → 0 < n → AllRepeated rd dec n (upper j base)
    → Uniform end (λ va. walk_from rd dec va.0 (first_at j n base va.0))
unfolding walk_from first_at
repeated_uniform rd dec j n base end pos rep va va' p low e same =
    let mega : va'.0 / 2 ^ 20 ≡ va.0 / 2 ^ 20 = agree_up (low_bits p.kind) 20 va'.0 va.0 (low_bits-le p.kind) same in
    let at : ℕ = upper j base + 4 * (va.0 / 2 ^ 20 % n) in
    ap (λ (i : ℕ). (walk_from rd dec va'.0 (upper j base + 4 * (i % n))).found) mega
    ∙ after rd va.0 va'.0 p same dec at (rd at) (rep (va.0 / 2 ^ 20 % n) (mod-lt _ pos)) e

-- how many words a page takes
pub coarse_counts : (repeats Table.Coarse Kind.Large ≡ 16) × (repeats Table.Coarse Kind.Small ≡ 1)
coarse_counts = (refl, refl)

pub fine_counts : (repeats Table.Fine Kind.Large ≡ 64) × (repeats Table.Fine Kind.Small ≡ 4) × (repeats Table.Fine Kind.Tiny ≡ 1)
fine_counts = (refl, refl, refl)
