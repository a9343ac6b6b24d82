-- Memories that hold the image read as its words. Assumes nothing.
use Rattle.walk.specs.declared.Table.{Table}
use Rattle.std.proofs.Common.{Option, None}
use Rattle.std.proofs.Common.{Some}
use Rattle.translates.specs.Names.{◌≡◌, true, List, ℕ, ◌+◌, ◌-◌, ◌≤◌, ◌<◌, length, take, drop, VirtualAddress, Lent, lent_ok, Mapping}
use Rattle.translates.specs.Names.{holder, image_length, image}
use Rattle.translates.proofs.Names.{refl, sym, ap, ap₂, ◌∙◌, suc, ◌*◌, ◌/◌, ◌%◌, ◌^◌, arith, lit<, length-take}
use Rattle.translates.proofs.Names.{get_or, get_or-take, get_or-drop, upper, virtual, pick_yes, pick_by, type_of-lt}
use Rattle.translates.proofs.Names.{place_in, word_of, read_in, All, OnHeld, all-holder, table_of, table_size, table_start}
use Rattle.translates.proofs.Names.{section_word, first_by, first_word, page_word, address_of, second_word, in_tables, image_word}
use Rattle.translates.proofs.Names.{bytes_by, end_next, end_last, Has, Standing}
use mathlib.Core.Logic.{inl, inr}
use Prim.Native.Nat.{zero}
use borrow.Author.Tests.{le-leb, ltb-true}
use lib.ListN.{length-drop}
use Rattle.page.proofs.Picks.{and_yes}
use Rattle.page.proofs.Slot.{start-room}
use Rattle.memory.specs.Memory.{lies_in}
use Rattle.wire.specs.Words.{little_endian, word_bytes}
use Rattle.walk.proofs.Lent.{on_read, ext-read}
use Rattle.records.specs.Mappings
use Rattle.wire.proofs.Splices.{bytes_at, bytes-length}
use Rattle.wire.proofs.Reading.{word_value}
use Rattle.tables.proofs.Places.{image_4}
use Rattle.builder.proofs.Whole.{image_length-is}
use Rattle.translates.proofs.Over.{Stands}

-- every word of the image fits 32 bits where the physical addresses do
abbrev pub Phys : Mapping → Type 0
Phys m = m.to.0 < 2 ^ 32

page_fits : (m : Mapping) → Phys m → page_word (Some m) < 2 ^ 32
page_fits m h = omega (arith, start-room m.kind m.to.0 h, type_of-lt m.kind)

second_fits : (va : VirtualAddress) (h : Option Mapping) → OnHeld (λ m. Phys m × (Mappings.holds m va ≡ true)) h → page_word h < 2 ^ 32
second_fits va (Some m) o = page_fits m o.0
second_fits va None o = lit< tt

section_fits : (va : VirtualAddress) (h : Option Mapping) → OnHeld (λ m. Phys m × (Mappings.holds m va ≡ true)) h → section_word h < 2 ^ 32
unfolding upper
section_fits va (Some m) o = omega (arith, o.0)
section_fits va None o = lit< tt

word_fits : (ms : List Mapping) → All Phys ms → (t : Option Table) (i j : ℕ) → second_word ms t i j < 2 ^ 32
unfolding second_word
word_fits ms phys t i j =
    second_fits (address_of t i j) (holder ms (address_of t i j)) (all-holder Phys ms (address_of t i j) phys)

module _ (n : ℕ) (ms : List Mapping) (phys : All Phys ms) (base : ℕ) (room : base + image_length n ms ≤ 2 ^ 32) where
  tables_fit : (k o : ℕ) → in_tables n ms k o < 2 ^ 32
  unfolding in_tables
  tables_fit zero o = lit< tt
  tables_fit (suc k) o = pick_by (λ (w : ℕ). w < 2 ^ 32) _ _ _ (λ _. word_fits ms phys _ _ _) (λ _. tables_fit k o)

  first_fits : (i : ℕ) → i < n → first_word n ms base i < 2 ^ 32
  unfolding first_word
  first_fits i h = by_table (table_of ms i) refl
    where
      ends : (t : Option Table) → table_of ms i ≡ t → table_start n ms i + table_size t ≤ image_length n ms
      ends t e = omega (arith, ap table_size e, end_next n ms i, end_last n ms (suc i) (omega arith))

      by_table : (t : Option Table) → table_of ms i ≡ t → first_by t (base + table_start n ms i) (holder ms (virtual (i * 2 ^ 20))) < 2 ^ 32
      by_table (Some Table.Fine) e = omega (arith, ends (Some Table.Fine) e)
      by_table (Some Table.Coarse) e = omega (arith, ends (Some Table.Coarse) e)
      by_table None e = section_fits (virtual (i * 2 ^ 20)) (holder ms (virtual (i * 2 ^ 20))) (all-holder Phys ms (virtual (i * 2 ^ 20)) phys)

  image_fits : (k : ℕ) → image_word n ms base k < 2 ^ 32
  unfolding image_word
  image_fits k = pick_by (λ (w : ℕ). w < 2 ^ 32) _ _ _ (λ t. first_fits k (ltb-true _ _ t)) (λ _. tables_fit n (4 * k))

-- word k of the words of f, read back from their bytes among others
module _ (f : ℕ → ℕ) (n k : ℕ) (l : List ℕ) (k₀ : ℕ) (h : k < n) (e : take (4 * n) (drop k₀ l) ≡ bytes_by f n) where
  pub room_of : k₀ + 4 * n ≤ length l
  room_of =
      let a = ap length e ∙ bytes-length f n in
      let b = length-take (4 * n) (drop k₀ l) in
      let c = length-drop k₀ l in
      omega arith

  byte : (j : ℕ) → j < 4 → get_or (take 4 (drop (k₀ + 4 * k) l)) j 0 ≡ get_or (word_bytes (f k)) j 0
  byte j c =
      let at : k₀ + 4 * k + j ≡ k₀ + (4 * k + j) = omega arith in
      let w : (4 * k + j) / 4 ≡ k = omega arith in
      let r : (4 * k + j) % 4 ≡ j = omega arith in
      get_or-take 4 (drop (k₀ + 4 * k) l) j 0 c
      ∙ get_or-drop (k₀ + 4 * k) l j 0
      ∙ ap (λ (x : ℕ). get_or l x 0) at
      ∙ sym (get_or-drop k₀ l (4 * k + j) 0)
      ∙ sym (get_or-take (4 * n) (drop k₀ l) (4 * k + j) 0 (omega arith))
      ∙ ap (λ (x : List ℕ). get_or x (4 * k + j) 0) e
      ∙ bytes_at f n (4 * k + j) (omega arith)
      ∙ ap₂ (λ (x y : ℕ). get_or (word_bytes (f x)) y 0) w r

  pub word_back : f k < 2 ^ 32 → word_of (take 4 (drop (k₀ + 4 * k) l)) ≡ f k
  unfolding word_of
  word_back lt =
      pick_yes _ _ _ (le-leb 4 (length (take 4 (drop (k₀ + 4 * k) l))) (omega (arith, room_of, length-take 4 (drop (k₀ + 4 * k) l), length-drop (k₀ + 4 * k) l)))
      ∙ ap₂ (λ (x y : ℕ). little_endian x y (get_or (take 4 (drop (k₀ + 4 * k) l)) 2 0) (get_or (take 4 (drop (k₀ + 4 * k) l)) 3 0)) (byte 0 (lit< tt)) (byte 1 (lit< tt))
      ∙ ap₂ (λ (x y : ℕ). little_endian (f k % 256) (f k / 256 % 256) x y) (byte 2 (lit< tt)) (byte 3 (lit< tt))
      ∙ word_value (f k) lt

-- so the memories read as the image
module _ (n : ℕ) (ms : List Mapping) (phys : All Phys ms) (base : ℕ) (room : base + image_length n ms ≤ 2 ^ 32) (m : Lent) (ok : lent_ok m ≡ true) where
  -- the word at an offset of the image, in the memory that has it
  part : (l : List ℕ) (b k : ℕ) → Has l b base (image n ms base) → 4 * k + 4 ≤ image_length n ms
      → (lies_in b (length l) (base + 4 * k) ≡ true) × (word_of (take 4 (drop (base + 4 * k - b) l)) ≡ image_word n ms base k)
  unfolding image lies_in
  part l b k h fits =
      let len = image_length-is n ms base in
      let full : take (image_length n ms) (drop (base - b) l) ≡ image n ms base = ap (λ (x : ℕ). take x (drop (base - b) l)) (sym len) ∙ h.1 in
      let four : 4 * (image_length n ms / 4) ≡ image_length n ms = omega (arith, image_4 n ms) in
      let e : take (4 * (image_length n ms / 4)) (drop (base - b) l) ≡ bytes_by (image_word n ms base) (image_length n ms / 4) = ap (λ (x : ℕ). take x (drop (base - b) l)) four ∙ full in
      let lt : k < image_length n ms / 4 = omega arith in
      let r = room_of (image_word n ms base) (image_length n ms / 4) k l (base - b) lt e in (
        and_yes _ _ (le-leb b (base + 4 * k) (omega (arith, h.0))) ∙ le-leb (base + 4 * k + 4) (b + length l) (omega (arith, h.0)),
        ap (λ (x : ℕ). word_of (take 4 (drop x l))) (let z : base + 4 * k - b ≡ base - b + 4 * k = omega (arith, h.0) in z)
            ∙ word_back (image_word n ms base) (image_length n ms / 4) k l (base - b) lt e (image_fits n ms phys base room k),
      )

  pub stands : Standing m base (image n ms base) → Stands (read_in m) (place_in m) n ms base
  stands (inl h) k fits =
      let p = part m.on m.onbase k h fits in
      on_read m ok (base + 4 * k) p.0 ∙ ap (λ (w : ℕ). Some (w, (place_in m (base + 4 * k)))) p.1
  stands (inr h) k fits =
      let p = part m.ext m.extbase k h fits in
      ext-read m ok (base + 4 * k) p.0 ∙ ap (λ (w : ℕ). Some (w, (place_in m (base + 4 * k)))) p.1
