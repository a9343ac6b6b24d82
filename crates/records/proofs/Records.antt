-- Mappings as records, and read back. Assumes nothing.
use Rattle.records.specs.Names.{◌≡◌, List, [], ◌∷◌, ◌++◌, ℕ, suc, ◌+◌, ◌*◌, ◌/◌, ◌%◌, ◌^◌, ◌<◌, length, take, drop, pick, type_of, Mapping, word_of}
use Rattle.records.proofs.Names.{refl, sym, ap, ap₂, ◌∙◌, arith, mapping_of, mappings_from, mappings}
use Rattle.records.proofs.Alls.{All}
use mathlib.Core.List.{append_assoc}
use native.Mathlib.Nat.{mod-eq_of_lt}
use lib.ListN.{length-append}
use lib.Seq.{take_at, drop-append-add}
use Rattle.page.proofs.Slot.{type_of-lt, kind_of_type}
use Rattle.wire.specs.Words.{word_bytes, bytes_of}
use Rattle.wire.proofs.Reading.{word_value}
use Rattle.records.specs.Mappings.{record_of, records_of}

-- a mapping whose fields have room in a record
pub record Recordable (m : Mapping) : Type 0 where
  pub virtual : m.at.0 < 2 ^ 32
  pub physical : m.to.0 < 2 ^ 32
  pub access : m.access < 256

-- its record says it
pub record_says : (m : Mapping) → Recordable m → mapping_of (record_of m) ≡ m
unfolding mapping_of record_of word_of pick
record_says m h =
    rw (word_value m.at.0 h.virtual, word_value m.to.0 h.physical, kind_of_type (type_of m.kind) m.kind (mod-eq_of_lt (type_of-lt m.kind)), mod-eq_of_lt h.access)

pub record_length : (m : Mapping) → length (record_of m) ≡ 12
unfolding record_of
record_length m = refl

pub records-length : (ms : List Mapping) → length (records_of ms) ≡ 12 * length ms
unfolding records_of
records-length [] = refl
records-length (m ∷ ms) = omega (arith, length-append (record_of m) (records_of ms), record_length m, records-length ms)

pub records-append : (ms ns : List Mapping) → records_of (ms ++ ns) ≡ records_of ms ++ records_of ns
unfolding records_of
records-append [] ns = refl
records-append (m ∷ ms) ns = ap (λ (l : List ℕ). record_of m ++ l) (records-append ms ns) ∙ sym (append_assoc (record_of m) (records_of ms) (records_of ns))

-- a record is three words
pub record_words : (m : Mapping) → bytes_of (m.at.0 ∷ m.to.0 ∷ (type_of m.kind + 256 * (m.access % 256)) ∷ []) ≡ records_of (m ∷ [])
unfolding bytes_of records_of record_of
record_words m = ap (λ (l : List ℕ). word_bytes m.at.0 ++ (word_bytes m.to.0 ++ (l ++ []))) last
  where
    last : word_bytes (type_of m.kind + 256 * (m.access % 256)) ≡ type_of m.kind ∷ m.access % 256 ∷ 0 ∷ 0 ∷ []
    last =
        ap₂ (λ (a : ℕ) (l : List ℕ). a ∷ l) (omega (arith, type_of-lt m.kind))
        (ap₂ (λ (a : ℕ) (l : List ℕ). a ∷ l) (omega (arith, type_of-lt m.kind))
        (ap₂ (λ (a b : ℕ). a ∷ b ∷ []) (omega (arith, type_of-lt m.kind)) (omega (arith, type_of-lt m.kind))))

-- the records of mappings, read as mappings
from-records : (ms : List Mapping) → All Recordable ms → (s : List ℕ) (i : ℕ) → length s ≡ 12 * i → mappings_from (s ++ records_of ms) i (length ms) ≡ ms
unfolding mappings_from records_of
from-records [] h s i e = refl
from-records (m ∷ ms) h s i e =
    ap₂ (λ (x : Mapping) (xs : List Mapping). x ∷ xs)
    (ap mapping_of
    (ap (take 12) (ap (λ (n : ℕ). drop n (s ++ (record_of m ++ records_of ms))) (let z : 12 * i ≡ length s + 0 = omega arith in z) ∙ drop-append-add s (record_of m ++ records_of ms) 0)
    ∙ take_at (record_of m) (records_of ms) 12 (record_length m))
    ∙ record_says m h.0)
    (ap (λ (l : List ℕ). mappings_from l (suc i) (length ms)) (sym (append_assoc s (record_of m) (records_of ms)))
    ∙ from-records ms h.1 (s ++ record_of m) (suc i) (omega (arith, length-append s (record_of m), record_length m)))

pub records_say : (ms : List Mapping) → All Recordable ms → mappings (records_of ms) ≡ ms
unfolding mappings
records_say ms h =
    ap (mappings_from (records_of ms) 0) (let z : length (records_of ms) / 12 ≡ length ms = omega (arith, records-length ms) in z) ∙ from-records ms h [] 0 refl
