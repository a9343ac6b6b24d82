-- A mapping's line, column by column; the lines of a list; and its records looked at one after the other. Assumes nothing.
use Rattle.std.proofs.Common.{Ok}
use Rattle.listing.specs.Names.{◌≡◌, true, false, List, [], ◌∷◌, ◌++◌, ℕ, zero, suc, ◌+◌, ◌*◌, ◌-◌, ◌/◌, ◌≤◌, ◌<◌, length, get_or, take, drop}
use Rattle.listing.specs.Names.{◌and◌, megabytes, Kind, Mapping, record_at, mappings, well_formed}
use Rattle.listing.proofs.Names.{refl, sym, ap, ap₂, ◌∙◌, append_assoc, arith, add-one, add-zero, le-ltb, ltb-false, length-append}
use Rattle.listing.proofs.Names.{drop_of_length-le, drop-cons, pick_yes, pick_no, pick_by, and_yes, and_no, mappings_from, pasted, hex_text}
use Rattle.listing.proofs.Names.{kind_column, hex_column, access_text, line_text, printed, formed_from, formed, shown, shown_at, print_text}
use Rattle.records.specs.Mappings.{no_mapping}
use Rattle.listing.specs.Prints.{access_column, Printing, printing}
use Rattle.wire.specs.Words.{Shown}
use Rattle.listing.specs.Theorems.{PrintedWithin}
use Rattle.wire.proofs.Pastes.{pasted_followed, pasted-none}

pub kind_length : (k : Kind) → length (kind_column k) ≡ 8
kind_length Kind.Section = refl
kind_length Kind.Large = refl
kind_length Kind.Small = refl
kind_length Kind.Tiny = refl

pub access_length : (a : ℕ) → length (access_column a) ≤ 3
unfolding access_text
access_length a = pick_by (λ (l : List ℕ). length (l ++ (10 ∷ [])) ≤ 3) _ _ _ (λ _. omega arith) (λ _. omega arith)

-- six digits are the last of eight
pub six_of_eight : (x : ℕ) → take 7 (drop 2 (hex_column 8 x)) ≡ hex_column 6 x
unfolding hex_text
six_of_eight x = refl

pub six_length : (x : ℕ) → length (hex_column 6 x) ≡ 7
unfolding hex_text
six_length x = refl

pub eight_length : (x : ℕ) → length (hex_column 8 x) ≡ 9
unfolding hex_text
eight_length x = refl

pub line-length : (m : Mapping) → length (line_text m) ≤ 27
unfolding line_text
line-length m =
    let p : List ℕ = hex_column 8 m.to.0 ++ access_column m.access in
    let v : List ℕ = hex_column 6 m.at.0 ++ p in
    omega (
      arith,
      length-append (kind_column m.kind) v,
      length-append (hex_column 6 m.at.0) p,
      length-append (hex_column 8 m.to.0) (access_column m.access),
      kind_length
          m.kind,
      six_length m.at.0,
      eight_length m.to.0,
      access_length m.access,
    )

-- the index behind bytes and the memory with them
pub shown-count : (r n : ℕ) (o l : List ℕ) → shown r o ≡ shown n l → r ≡ n
shown-count r n o l e = ap (λ (x : Shown). x.count) e

pub shown-memory : (r n : ℕ) (o l : List ℕ) → shown r o ≡ shown n l → o ≡ l
shown-memory r n o l e = ap (λ (x : Shown). x.memory) e

-- bytes behind bytes, shown
pub shown_then : (l m n : List ℕ) (at k r : ℕ) (s t : List ℕ) → k ≡ at + length s → at + length s ≤ length l → m ≡ pasted l at s → shown r n ≡ shown_at m k t
    → shown r n ≡ shown_at l at (s ++ t)
shown_then l m n at k r s t e h p q =
    ap₂ shown
    (shown-count _ _ _ _ q ∙ (let z : k + length t ≡ at + length (s ++ t) = omega (arith, length-append s t) in z))
    (pasted_followed l m n at k s t e h p (shown-memory _ _ _ _ q))

-- a line, column by column
pub line_made : (o o1 o2 o3 o4 v p : List ℕ) (at r : ℕ) (m : Mapping) → at + 27 ≤ length o
    → o1 ≡ pasted o at (kind_column m.kind) → v ≡ hex_column 8 m.at.0 → o2 ≡ pasted o1 (at + 8) (take 7 (drop 2 v))
    → p ≡ hex_column 8 m.to.0 → o3 ≡ pasted o2 (at + 15) p → shown r o4 ≡ shown_at o3 (at + 24) (access_column m.access) → shown r o4 ≡ shown_at o at (line_text m)
unfolding line_text
line_made o o1 o2 o3 o4 v p at r m h a ve b pe d f =
    let K : List ℕ = kind_column m.kind in
    let W : List ℕ = hex_column 6 m.at.0 in
    let P : List ℕ = hex_column 8 m.to.0 in
    let A : List ℕ = access_column m.access in
    let k = kind_length m.kind in
    let s = six_length m.at.0 in
    let g = eight_length m.to.0 in
    let kv = length-append K W in
    let kvp = length-append (K ++ W) P in
    let two : o2 ≡ pasted o at (K ++ W) =
    pasted_followed o o1 o2 at (at + 8) K W (omega arith) (omega arith) a (b ∙ ap (pasted o1 (at + 8)) (ap (λ (x : List ℕ). take 7 (drop 2 x)) ve ∙ six_of_eight m.at.0)) in
    let three : o3 ≡ pasted o at ((K ++ W) ++ P) = pasted_followed o o2 o3 at (at + 15) (K ++ W) P (omega arith) (omega arith) two (d ∙ ap (pasted o2 (at + 15)) pe) in
    shown_then o o3 o4 at (at + 24) r ((K ++ W) ++ P) A (omega arith) (omega arith) three f
    ∙ ap (shown_at o at) (append_assoc (K ++ W) P A ∙ append_assoc K W (P ++ A))

-- the loop over the lines: where it is, and that what is left gives the text
pub record Turned (ms : List Mapping) (o₀ o : List ℕ) (at i : ℕ) : Type 0 where
  pub few : i ≤ length ms
  pub room : at + 27 * (length ms - i) ≤ length o
  pub kept : length o ≡ length o₀
  pub left : shown_at o₀ 0 (printed ms) ≡ shown_at o at (printed (drop i ms))

pub printing-first : (ms : List Mapping) (o : List ℕ) → 27 * length ms ≤ length o → Turned ms o o 0 0
printing-first ms o h = record { few = omega arith; room = omega arith; kept = refl; left = refl }

module _ (ms : List Mapping) (o₀ o : List ℕ) (at i : ℕ) (v : Turned ms o₀ o at i) where
  pub printing-room : i < length ms → at + 27 ≤ length o
  printing-room h = omega (arith, v.room)

  pub printing_turn : (m : Mapping) (o' : List ℕ) (r : ℕ) → i < length ms → m ≡ get_or ms i no_mapping → length o' ≡ length o → shown r o' ≡ shown_at o at (line_text m)
      → Turned ms o₀ o' r (i + 1)
  unfolding printed
  printing_turn m o' r h e k q =
      let R : List ℕ = printed (drop (i + 1) ms) in
      let n = shown-count _ _ _ _ q in
      let l = line-length m in
      let w : at + length (line_text m) ≤ length o = omega (arith, v.room) in
      record {
        few = omega arith;
        room = omega (arith, v.room);
        kept = k ∙ v.kept;
        left =
            v.left
            ∙ ap (λ (x : List Mapping). shown_at o at (printed x)) (drop-cons ms i no_mapping h ∙ ap₂ (λ (x : Mapping) (j : ℕ). x ∷ drop j ms) (sym e) (sym (add-one i)))
            ∙ sym (shown_then o o' (pasted o' r R) at r (r + length R) (line_text m) R n w (shown-memory _ _ _ _ q) refl);
      }

  pub printing_last : length ms ≤ i → shown at o ≡ shown_at o₀ 0 (printed ms)
  unfolding printed
  printing_last h =
      sym (v.left
      ∙ ap (λ (x : List Mapping). shown_at o at (printed x)) (drop_of_length-le ms {i = i} h)
      ∙ ap₂ shown (add-zero at) (pasted-none o at))

-- the loop over the records
abbrev pub Formed : List ℕ → ℕ → ℕ → Type 0
Formed rs n i = formed_from rs 0 n ≡ formed_from rs i (n - i)

pub formed-first : (rs : List ℕ) (n : ℕ) → Formed rs n 0
formed-first rs n = ap (formed_from rs 0) (let z : n ≡ n - 0 = omega arith in z)

module _ (rs : List ℕ) (n i : ℕ) (h : i < n) (v : Formed rs n i) where
  formed_at : formed_from rs 0 n ≡ (well_formed megabytes (record_at rs i) and formed_from rs (i + 1) (n - (i + 1)))
  unfolding formed_from
  formed_at =
      v
      ∙ ap (formed_from rs i) (let z : n - i ≡ suc (n - (i + 1)) = omega arith in z)
      ∙ ap (λ (k : ℕ). well_formed megabytes (record_at rs i) and formed_from rs k (n - (i + 1))) (sym (add-one i))

  part : take (12 * i + 12 - 12 * i) (drop (12 * i) rs) ≡ record_at rs i
  part = ap (λ (k : ℕ). take k (drop (12 * i) rs)) (let z : 12 * i + 12 - 12 * i ≡ 12 = omega arith in z)

  pub formed-bad : well_formed megabytes (take (12 * i + 12 - 12 * i) (drop (12 * i) rs)) ≡ false → false ≡ formed_from rs 0 n
  formed-bad b = sym (formed_at ∙ and_no _ _ (ap (well_formed megabytes) (sym part) ∙ b))

  pub formed-more : well_formed megabytes (take (12 * i + 12 - 12 * i) (drop (12 * i) rs)) ≡ true → Formed rs n (i + 1)
  formed-more b = formed_at ∙ and_yes _ _ (ap (well_formed megabytes) (sym part) ∙ b)

pub formed_last : (rs : List ℕ) (n i : ℕ) → n ≤ i → Formed rs n i → true ≡ formed_from rs 0 n
unfolding formed_from
formed_last rs n i h v = sym (v ∙ ap (formed_from rs i) (let z : n - i ≡ 0 = omega arith in z))

-- what printing answers, by its two tests
pub print_on : (rs o o' : List ℕ) (r : ℕ) → formed rs ≡ true → 27 * (length rs / 12) ≤ length o → shown r o' ≡ shown_at o 0 (printed (mappings rs))
    → printing (Ok r) o' ≡ print_text rs o
unfolding print_text
print_on rs o o' r f h e =
    ap₂ (λ (n : ℕ) (l : List ℕ). printing (Ok n) l)
    (shown-count _ _ _ _ e ∙ (let z : 0 + length (printed (mappings rs)) ≡ length (printed (mappings rs)) = omega arith in z)) (shown-memory _ _ _ _ e)
    ∙ sym (pick_yes _ _ _ f ∙ pick_no _ _ _ (le-ltb (length o) (27 * (length rs / 12)) h))

from-length : (rs : List ℕ) (n i : ℕ) → length (mappings_from rs i n) ≡ n
unfolding mappings_from
from-length rs zero i = refl
from-length rs (suc n) i = ap suc (from-length rs n (suc i))

pub mappings-count : (rs : List ℕ) → length (mappings rs) ≡ length rs / 12
unfolding mappings
mappings-count rs = from-length rs (length rs / 12) 0

pub printed-length : (ms : List Mapping) → length (printed ms) ≤ 27 * length ms
unfolding printed
printed-length [] = omega arith
printed-length (m ∷ ms) = omega (arith, length-append (line_text m) (printed ms), line-length m, printed-length ms)

pub printed-within : PrintedWithin
unfolding print_text
printed-within rs l k =
    pick_by (λ (p : Printing). p.answer ≡ Ok k → k ≤ length l) _ _ _
    (λ _. pick_by (λ (p : Printing). p.answer ≡ Ok k → k ≤ length l) _ _ _ (λ _ e. let z : ◌≡◌ {A = ℕ} 0 1 = cc in absurd (omega arith))
    (λ b e. let z : length (printed (mappings rs)) ≡ k = cc in omega (arith, printed-length (mappings rs), mappings-count rs, ltb-false (length l) (27 * (length rs / 12)) b)))
    (λ _ e. let z : ◌≡◌ {A = ℕ} 0 1 = cc in absurd (omega arith))
