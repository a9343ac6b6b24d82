-- What a slot's two words say after they were made, dropped or flushed. Assumes nothing.
use mathlib.Core.Path.{◌≡◌, refl, sym, ap, ap₂, ◌∙◌}
use mathlib.Core.Bool.{Bool, true, false, ◌&&◌}
use Prim.Native.Nat.{ℕ, ◌+◌, ◌-◌, ◌*◌, ◌/◌, ◌%◌, ◌^◌, ◌<◌, ◌≤◌}
use native.Mathlib.Omega.{arith}
use lib.Dec.{eqb, ltb}
use lib.Bits.{bit_xor}
use borrow.Author.Tests.{eq-eqb, ne_eqb, eqb-true}
use Rattle.page.specs.declared.Kind.{Kind}
use Rattle.page.specs.declared.VirtualAddress.{VirtualAddress}
use Rattle.page.specs.Pick.{◌and◌}
use Rattle.page.specs.Low.{upper, agree, joined}
use Rattle.page.specs.Words.{low_bits, type_of, kind_of, physical, word_valid, word_preserved, word_tag, word_access, word_matches, word_address}
use Rattle.page.specs.Words.{word_dropped, word_flushed, made_cam, made_ram}
use Rattle.page.proofs.Picks.{pick_yes, pick_no, bits_01, bits_10, bits_11, and_yes, and_no, and_is}
use Rattle.page.proofs.Lower.{upper-le, upper_high, joined-agree, apart-agree, pages-agree}

-- a page is at least a tiny one and at most a section
pub low_bits-ge : (k : Kind) → 10 ≤ low_bits k
low_bits-ge Kind.Section = omega arith
low_bits-ge Kind.Large = omega arith
low_bits-ge Kind.Small = omega arith
low_bits-ge Kind.Tiny = omega arith

pub low_bits-le : (k : Kind) → low_bits k ≤ 20
low_bits-le Kind.Section = omega arith
low_bits-le Kind.Large = omega arith
low_bits-le Kind.Small = omega arith
low_bits-le Kind.Tiny = omega arith

pub type_of-lt : (k : Kind) → type_of k < 4
type_of-lt Kind.Section = omega arith
type_of-lt Kind.Large = omega arith
type_of-lt Kind.Small = omega arith
type_of-lt Kind.Tiny = omega arith

-- the type bits say the kind, and no other
pub kind_of_type : (w : ℕ) (k : Kind) → w % 4 ≡ type_of k → kind_of w ≡ k
unfolding kind_of
kind_of_type w Kind.Section e = pick_yes _ _ _ (eq-eqb _ _ e)
kind_of_type w Kind.Large e = sym (bits_01 _ _ _ _ w e)
kind_of_type w Kind.Small e = sym (bits_10 _ _ _ _ w e)
kind_of_type w Kind.Tiny e = sym (bits_11 _ _ _ _ w (λ q. omega (arith, q, e)) (λ q. omega (arith, q, e)) (λ q. omega (arith, q, e)))

-- a page starts at a multiple of 1,024
pub start_1024 : (k : Kind) (x : ℕ) → upper (low_bits k) x % 1024 ≡ 0
unfolding upper
start_1024 Kind.Section x = omega arith
start_1024 Kind.Large x = omega arith
start_1024 Kind.Small x = omega arith
start_1024 Kind.Tiny x = omega arith

-- so ten bits have room below it, in a word of 32
pub start-room : (k : Kind) (x : ℕ) → x < 2 ^ 32 → upper (low_bits k) x + 1023 < 2 ^ 32
start-room k x h = omega (arith, upper-le (low_bits k) x, start_1024 k x)

-- what a walk stores says what the walk found
module _ (k : Kind) (va : ℕ) where
  pub made-valid : word_valid (made_cam k va) ≡ true
  unfolding made_cam
  made-valid = eq-eqb (made_cam k va / 4 % 2) 1 (omega (arith, start_1024 k va, type_of-lt k))

  pub made-not_preserved : word_preserved (made_cam k va) ≡ false
  unfolding made_cam
  made-not_preserved = ne_eqb (made_cam k va / 8 % 2) 1 (λ q. omega (arith, q, start_1024 k va, type_of-lt k))

  pub made_kind : kind_of (made_cam k va) ≡ k
  unfolding made_cam
  made_kind = kind_of_type (made_cam k va) k (omega (arith, start_1024 k va, type_of-lt k))

  pub made_tag : word_tag (made_cam k va) ≡ upper (low_bits k) va
  unfolding made_cam
  made_tag = omega (arith, start_1024 k va, type_of-lt k)

  -- it matches the addresses of the page and no other
  pub made-matches : (at : VirtualAddress) → word_matches (made_cam k va) at ≡ agree (low_bits k) at.0 va
  unfolding word_matches
  made-matches at =
      and_yes _ _ made-valid
      ∙ ap₂ (λ (j : Kind) (t : ℕ). agree (low_bits j) at.0 t) made_kind made_tag
      ∙ ap (λ (q : ℕ). eqb (at.0 / 2 ^ low_bits k) q) (upper_high (low_bits k) va)

pub made_access : (k : Kind) (frame access : ℕ) → access < 4 → word_access (made_ram k frame access) ≡ access
unfolding made_ram
made_access k frame access h = omega (arith, start_1024 k frame)

-- the access bits lie below every page size
made_frame : (k : Kind) (frame access : ℕ) → made_ram k frame access / 2 ^ low_bits k ≡ frame / 2 ^ low_bits k
unfolding made_ram upper
made_frame Kind.Section frame access = omega arith
made_frame Kind.Large frame access = omega arith
made_frame Kind.Small frame access = omega arith
made_frame Kind.Tiny frame access = omega arith

pub made-address : (k : Kind) (frame access va : ℕ) (at : VirtualAddress) → word_address (made_cam k va) (made_ram k frame access) at ≡ physical (joined (low_bits k) frame at.0)
unfolding word_address
made-address k frame access va at =
    ap (λ (j : Kind). physical (joined (low_bits j) (made_ram k frame access) at.0)) (made_kind k va)
    ∙ ap physical (joined-agree (low_bits k) (made_ram k frame access) frame at.0 (made_frame k frame access))

-- V is clear in a dropped word, and the rest is as it was
pub dropped-off : (w : ℕ) → word_valid (word_dropped w) ≡ false
unfolding word_dropped
dropped-off w = by_valid (word_valid w) refl
  where
    by_valid : (t : Bool) → word_valid w ≡ t → word_valid (word_dropped w) ≡ false
    by_valid true e =
        let h : w / 4 % 2 ≡ 1 = eqb-true _ _ e in
        ap word_valid (pick_yes _ _ _ e) ∙ ne_eqb ((w - 4) / 4 % 2) 1 (λ q. omega (arith, q, h))
    by_valid false e = ap word_valid (pick_no _ _ _ e) ∙ e

pub dropped-rest : (w : ℕ) → (word_dropped w / 8 ≡ w / 8) × (word_dropped w % 4 ≡ w % 4)
unfolding word_dropped
dropped-rest w = by_valid (word_valid w) refl
  where
    by_valid : (t : Bool) → word_valid w ≡ t → (word_dropped w / 8 ≡ w / 8) × (word_dropped w % 4 ≡ w % 4)
    by_valid true e =
        let h : w / 4 % 2 ≡ 1 = eqb-true _ _ e in
        rw (pick_yes _ (w - 4) w e) ((omega (arith, h), omega (arith, h)))
    by_valid false e = rw (pick_no _ (w - 4) w e) ((refl, refl))

-- a word that is not valid matches nothing
pub off-matches : (w : ℕ) (va : VirtualAddress) → word_valid w ≡ false → word_matches w va ≡ false
unfolding word_matches
off-matches w va h = and_no _ _ h

-- a global flush keeps V exactly where P is set
pub flushed-valid : (w : ℕ) → word_valid (word_flushed w) ≡ (word_preserved w and word_valid w)
unfolding word_flushed
flushed-valid w = by_kept (word_preserved w) refl
  where
    by_kept : (t : Bool) → word_preserved w ≡ t → word_valid (word_flushed w) ≡ (t and word_valid w)
    by_kept true e = ap word_valid (pick_yes _ _ _ e) ∙ sym (and_yes true (word_valid w) refl)
    by_kept false e = ap word_valid (pick_no _ _ _ e) ∙ dropped-off w ∙ sym (and_no false (word_valid w) refl)

-- the code's test, on the bits in which page number and tag are apart, decides what the definition says
pub matches-apart : (w : ℕ) (va : VirtualAddress) (t : Bool) (k : Kind) (r : ℕ) → t ≡ word_valid w → k ≡ kind_of w → r ≡ 2 ^ (low_bits k - 10)
    → (t && ltb (bit_xor (va.0 / 1024) (w / 16)) r) ≡ word_matches w va
unfolding word_matches
matches-apart w va t k r et ek er =
    ap₂ (λ (v : Bool) (m : ℕ). v && ltb (bit_xor (va.0 / 1024) (w / 16)) m) et (er ∙ ap (λ (j : Kind). 2 ^ (low_bits j - 10)) ek)
    ∙ and_is _ _
    ∙ ap (λ (q : Bool). word_valid w and q)
    (apart-agree (low_bits (kind_of w) - 10) (va.0 / 1024) (w / 16)
    ∙ pages-agree 10 (low_bits (kind_of w) - 10) va.0 (w / 16)
    ∙ ap (λ (m : ℕ). agree m va.0 (w / 16 * 2 ^ 10)) (omega (arith, low_bits-ge (kind_of w))))
