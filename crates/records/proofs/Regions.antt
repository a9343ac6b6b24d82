-- The tiny pages that a mapping has, as a run. Assumes nothing.
use Rattle.records.specs.Names.{◌≡◌, Bool, true, false, List, ℕ, ◌+◌, ◌*◌, ◌/◌, ◌%◌, ◌^◌, ◌≤◌, ◌<◌, eqb, length, get_or, set, virtual, low_bits}
use Rattle.records.specs.Names.{Kind, Mapping}
use Rattle.records.proofs.Names.{sym, ap, ◌∙◌, true≢false, arith, bit_or, shl_exact, eq-eqb, eqb-true, holds, Says, Untaken, Free, Full, Covered}
use Rattle.records.proofs.Runs.{says_run, says_word, full-or, full-all}

-- the run of n pages from s on is exactly what the mapping has
pub record Region (m : Mapping) (s n : ℕ) : Type 0 where
  pub inside : (p : ℕ) → holds m (virtual (p * 1024)) ≡ true → (s ≤ p) × (p < s + n)
  pub within : (p : ℕ) → s ≤ p → p < s + n → holds m (virtual (p * 1024)) ≡ true
  pub below : s + n ≤ 16384

holds_by : (m : Mapping) (k : Kind) (p : ℕ) → m.kind ≡ k → holds m (virtual (p * 1024)) ≡ eqb (p * 1024 / 2 ^ low_bits k) (m.at.0 / 2 ^ low_bits k)
unfolding holds
holds_by m k p e = ap (λ (x : Kind). eqb (p * 1024 / 2 ^ low_bits x) (m.at.0 / 2 ^ low_bits x)) e

region_by : (m : Mapping) (k : Kind) (s n : ℕ) → m.kind ≡ k → s + n ≤ 16384
    → ((p : ℕ) → p * 1024 / 2 ^ low_bits k ≡ m.at.0 / 2 ^ low_bits k → (s ≤ p) × (p < s + n))
    → ((p : ℕ) → s ≤ p → p < s + n → p * 1024 / 2 ^ low_bits k ≡ m.at.0 / 2 ^ low_bits k)
    → Region m s n
region_by m k s n e b f g = record
    { inside = λ p h. f p (eqb-true _ _ (sym (holds_by m k p e) ∙ h)); within = λ p l h. holds_by m k p e ∙ eq-eqb _ _ (g p l h); below = b }

module _ (m : Mapping) (lt : m.at.0 < 16777216) where
  pub region_tiny : m.kind ≡ Kind.Tiny → Region m (64 * (m.at.0 / 65536) + m.at.0 / 1024 % 64) 1
  region_tiny e = region_by m Kind.Tiny _ 1 e (omega arith) (λ p h. (omega arith, omega arith)) (λ p l h. omega arith)

  pub region_small : m.kind ≡ Kind.Small → Region m (64 * (m.at.0 / 65536) + m.at.0 / 1024 % 64 / 4 * 4) 4
  region_small e = region_by m Kind.Small _ 4 e (omega arith) (λ p h. (omega arith, omega arith)) (λ p l h. omega arith)

  pub region_large : m.kind ≡ Kind.Large → Region m (64 * (m.at.0 / 65536) + 0) 64
  region_large e = region_by m Kind.Large _ 64 e (omega arith) (λ p h. (omega arith, omega arith)) (λ p l h. omega arith)

  pub region_section : m.kind ≡ Kind.Section → Region m (64 * (m.at.0 / 65536 / 16 * 16)) 1024
  region_section e = region_by m Kind.Section _ 1024 e (omega arith) (λ p h. (omega arith, omega arith)) (λ p l h. omega arith)

-- what a test says of the run it says of the mapping
pub says_free : (c : List ℕ) (m : Mapping) (s n : ℕ) (r : Bool) → Region m s n → Says (Untaken c s n) r → Says (Free c m) r
says_free c m s n true g f = λ p h e. let i = g.inside p e in f p i.0 i.1
says_free c m s n false g f = λ free. f (λ p l h. free p (omega (arith, g.below)) (g.within p l h))

pub covered_of : (c d : List ℕ) (m : Mapping) (s n : ℕ) → Region m s n → Full c s n d → Covered c m d
covered_of c d m s n g f = (
  λ p h e. let i = g.inside p e in f.0 p i.0 i.1,
  λ p h e. f.1 p (λ l k. true≢false (sym (g.within p l k) ∙ e)),
)

-- the test and the taking, kind by kind, as the code computes them
module _ (c : List ℕ) (m : Mapping) (lt : m.at.0 < 16777216) where
  abbrev word : ℕ
  word = m.at.0 / 65536

  pub free_section : (r : Bool) → m.kind ≡ Kind.Section → Says (Untaken c (64 * (word / 16 * 16)) 1024) r → Says (Free c m) r
  free_section r e s = says_free c m _ 1024 r (region_section m lt e) s

  pub free_large : m.kind ≡ Kind.Large → get_or c word 0 < 2 ^ 64 → Says (Free c m) (eqb (get_or c word 0) 0)
  free_large e f = says_free c m _ 64 (eqb (get_or c word 0) 0) (region_large m lt e) (says_word c word f)

  pub free_small : m.kind ≡ Kind.Small → Says (Free c m) (eqb (get_or c word 0 / 2 ^ (m.at.0 / 1024 % 64 / 4 * 4) % 16) 0)
  free_small e = says_free c m _ 4 (eqb (get_or c word 0 / 2 ^ (m.at.0 / 1024 % 64 / 4 * 4) % 16) 0) (region_small m lt e) (says_run c word (m.at.0 / 1024 % 64 / 4 * 4) 4 (omega arith))

  pub free_tiny : m.kind ≡ Kind.Tiny → Says (Free c m) (eqb (get_or c word 0 / 2 ^ (m.at.0 / 1024 % 64) % 2) 0)
  free_tiny e = says_free c m _ 1 (eqb (get_or c word 0 / 2 ^ (m.at.0 / 1024 % 64) % 2) 0) (region_tiny m lt e) (says_run c word (m.at.0 / 1024 % 64) 1 (omega arith))

  pub cover_section : (d : List ℕ) → m.kind ≡ Kind.Section → Full c (64 * (word / 16 * 16)) 1024 d → Covered c m d
  cover_section d e f = covered_of c d m _ 1024 (region_section m lt e) f

  module _ (room : length c ≡ 256) where
    pub cover_large : m.kind ≡ Kind.Large → Covered c m (set c word 18446744073709551615)
    cover_large e = covered_of c _ m _ 64 (region_large m lt e) (full-all c word (omega arith))

    pub cover_small : m.kind ≡ Kind.Small → Covered c m (set c word (bit_or (get_or c word 0) (15 * 2 ^ (m.at.0 / 1024 % 64 / 4 * 4) % 18446744073709551616)))
    cover_small e =
        covered_of c _ m _ 4 (region_small m lt e)
        (full-or c word (m.at.0 / 1024 % 64 / 4 * 4) 4 _ (omega arith) (omega arith) (shl_exact 4 (m.at.0 / 1024 % 64 / 4 * 4) 64 (omega arith) (omega arith)))

    pub cover_tiny : m.kind ≡ Kind.Tiny → Covered c m (set c word (bit_or (get_or c word 0) (1 * 2 ^ (m.at.0 / 1024 % 64) % 18446744073709551616)))
    cover_tiny e =
        covered_of c _ m _ 1 (region_tiny m lt e)
        (full-or c word (m.at.0 / 1024 % 64) 1 _ (omega arith) (omega arith) (shl_exact 1 (m.at.0 / 1024 % 64) 64 (omega arith) (omega arith)))
