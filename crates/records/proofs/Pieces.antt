-- A list's bytes, one record's piece after the other. Assumes nothing.
use Rattle.std.proofs.Common.{Option, Some, None, cond}
use Rattle.std.specs.List.{find}
use Rattle.std.specs.Option.{option_map}
use Rattle.records.specs.Names.{◌≡◌, Bool, true, false, List, [], ◌∷◌, ◌++◌, ℕ, zero, suc, ◌+◌, ◌*◌, ◌/◌, ◌<◌, length, take, drop, pick, VirtualAddress, Mapping}
use Rattle.records.proofs.Names.{refl, sym, ap, ap₂, ◌∙◌, arith, dec_le, record_at, mapping_of, mappings_from, mappings, holds, holder}
use Prim.Native.Nat.{min}
use lib.ListN.{length-append, length-drop, drop_of_length-le}
use Rattle.std.proofs.Common.{append-nil, map}
use Rattle.std.proofs.lemmas.List.{map-id}
use lib.Seq.{take_at, take_all, drop-append-add, drop-drop}

no_bytes : (r : List ℕ) → length r ≡ 0 → r ≡ []
no_bytes [] e = refl
no_bytes (x ∷ r) e = absurd (omega arith)

-- a piece of at most twelve bytes, and what is behind it
piece : (l x r : List ℕ) → l ≡ x ++ r → length x ≡ min 12 (length l) → (x ≡ take 12 l) × (r ≡ drop 12 l)
piece l x r e n = elim (dec_le 12 (length l)) [
  | yes g ↦
      let twelve : length x ≡ 12 = omega arith in (
        sym (ap (take 12) e ∙ take_at x r 12 twelve),
        sym (ap (drop 12) e ∙ ap (λ (k : ℕ). drop k (x ++ r)) (let z : 12 ≡ length x + 0 = omega arith in z) ∙ drop-append-add x r 0),
      )
  | no g ↦
      let all : length l ≡ length x + length r = ap length e ∙ length-append x r in
      let none : r ≡ [] = no_bytes r (omega arith) in
      let same : l ≡ x = e ∙ ap (λ (t : List ℕ). x ++ t) none ∙ append-nil x in (
        sym (ap (take 12) same ∙ take_all 12 x (omega arith)),
        none ∙ sym (drop_of_length-le l {i = 12} (omega arith)),
      )
]

-- one record more: it begins in the list, and what is left is behind it
pub turn : (rs rest x r : List ℕ) (i size : ℕ) → size ≡ 12 → rest ≡ drop (12 * i) rs → (rest ≡ x ++ r) × (length x ≡ min size (length rest)) × (0 < length rest)
    → (x ≡ record_at rs i) × (r ≡ drop (12 * (i + 1)) rs) × (12 * i < length rs)
turn rs rest x r i size twelve e f =
    let p = piece rest x r f.0 (f.1 ∙ ap (λ (k : ℕ). min k (length rest)) twelve) in (
      p.0 ∙ ap (take 12) e,
      p.1 ∙ ap (drop 12) e ∙ drop-drop 12 (12 * i) rs ∙ ap (λ (k : ℕ). drop k rs) (let z : 12 * i + 12 ≡ 12 * (i + 1) = omega arith in z),
      omega (arith, f.2, ap length e, length-drop (12 * i) rs),
    )

pub turn_exact : (rs rest x r : List ℕ) (i size : ℕ) → size ≡ 12 → rest ≡ drop (12 * i) rs → (rest ≡ x ++ r) × (length x ≡ size)
    → (x ≡ record_at rs i) × (r ≡ drop (12 * (i + 1)) rs) × (12 * i < length rs)
turn_exact rs rest x r i size twelve e f =
    let long : length rest ≡ length x + length r = ap length f.0 ∙ length-append x r in
    turn rs rest x r i size twelve e (f.0, omega (arith, f.1), omega (arith, f.1))

-- the mappings of a whole record and of those behind it
shift : (x r : List ℕ) (n i : ℕ) → length x ≡ 12 → mappings_from (x ++ r) (suc i) n ≡ mappings_from r i n
unfolding mappings_from
shift x r zero i e = refl
shift x r (suc n) i e =
    ap₂ (λ (m : Mapping) (ms : List Mapping). m ∷ ms)
    (ap (λ (l : List ℕ). mapping_of (take 12 l))
    (ap (λ (k : ℕ). drop k (x ++ r)) (let z : 12 * suc i ≡ length x + 12 * i = omega arith in z) ∙ drop-append-add x r (12 * i)))
    (shift x r n (suc i) e)

pub mappings-cons : (x r : List ℕ) → length x ≡ 12 → mappings (x ++ r) ≡ mapping_of x ∷ mappings r
unfolding mappings mappings_from
mappings-cons x r e =
    ap (mappings_from (x ++ r) 0) (let z : length (x ++ r) / 12 ≡ suc (length r / 12) = omega (arith, length-append x r) in z)
    ∙ ap₂ (λ (m : Mapping) (ms : List Mapping). m ∷ ms) (ap mapping_of (take_at x r 12 e)) (shift x r (length r / 12) 0 e)

-- the first mapping that holds an address is what a search finds
cond-pick : {X : Type 0} (b : Bool) (x y : X) → cond b x y ≡ pick b x y
unfolding pick
cond-pick true x y = refl
cond-pick false x y = refl

find-holder : (ms : List Mapping) (va : VirtualAddress) → find (λ m. holds m va) ms ≡ holder ms va
unfolding holder
find-holder [] va = refl
find-holder (m ∷ ms) va = ap (cond (holds m va) (Some m)) (find-holder ms va) ∙ cond-pick (holds m va) (Some m) (holder ms va)

map_same : (o : Option Mapping) → option_map (λ m. m) o ≡ o
map_same (Some m) = refl
map_same None = refl

pub found_is : (rest rs : List ℕ) (va : VirtualAddress) (o : Option Mapping) → rest ≡ rs → option_map (λ m. m) o ≡ find (λ m. holds m va) (map (λ m. m) (mappings rest)) → o ≡ holder (mappings rs) va
found_is rest rs va o e f = sym (map_same o) ∙ f ∙ ap (find (λ m. holds m va)) (map-id (mappings rest)) ∙ ap (λ (l : List ℕ). find (λ m. holds m va) (mappings l)) e ∙ find-holder (mappings rs) va
