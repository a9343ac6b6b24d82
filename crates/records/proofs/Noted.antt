-- The kinds that the check notes: after i records those of the first i mappings. Assumes nothing.
use Rattle.std.proofs.Common.{Result, Ok, Err}
use Rattle.records.specs.declared.BadList.{BadList}
use Rattle.records.specs.Names.{◌≡◌, Bool, true, false, List, ℕ, zero, suc, ◌+◌, ◌*◌, ◌/◌, ◌≤◌, ◌<◌, length, set, ◌or◌, Kind, Mapping}
use Rattle.records.proofs.Names.{refl, sym, ap, ◌∙◌, subst, arith, add-one, length-set, record_at, mapping_of, mappings_from, mappings, is_in}
use Rattle.records.proofs.Names.{has_kind, Blank, note_at, Kinds}
use Rattle.records.proofs.Notes.{noted_none, noted_more}

or_swap : (a b c : Bool) → (a or (b or c)) ≡ (b or (a or c))
unfolding ◌or◌
or_swap true true c = refl
or_swap true false c = refl
or_swap false true c = refl
or_swap false false c = refl

-- the kinds of one record more
kind_more : (rs : List ℕ) (x : ℕ) (k : Kind) (n i : ℕ) → has_kind (mappings_from rs i (suc n)) x k ≡ (is_in x k (mapping_of (record_at rs (i + n))) or has_kind (mappings_from rs i n) x k)
unfolding has_kind mappings_from
kind_more rs x k zero i = ap (λ (j : ℕ). is_in x k (mapping_of (record_at rs j)) or false) (let e : i ≡ i + 0 = omega arith in e)
kind_more rs x k (suc n) i =
    ap (λ (b : Bool). is_in x k (mapping_of (record_at rs i)) or b) (kind_more rs x k n (suc i))
    ∙ or_swap (is_in x k (mapping_of (record_at rs i))) (is_in x k (mapping_of (record_at rs (suc i + n)))) (has_kind (mappings_from rs (suc i) n) x k)
    ∙ ap (λ (j : ℕ). is_in x k (mapping_of (record_at rs j)) or has_kind (mappings_from rs i (suc n)) x k) (let e : suc i + n ≡ i + suc n = omega arith in e)

-- with i records passed, over notes that began blank
pub record Notes (rs : List ℕ) (i : ℕ) (seen : List Bool) : Type 0 where
  pub room : length seen ≡ 64
  pub kinds : Kinds (mappings_from rs 0 i) seen

pub notes_none : (rs : List ℕ) (seen : List Bool) → Blank seen → Notes rs 0 seen
unfolding mappings_from
notes_none rs seen e = record { room = ap length e; kinds = noted_none seen e }

pub notes_more : (rs : List ℕ) (i : ℕ) (m : Mapping) (seen after : List Bool) → m ≡ mapping_of (record_at rs i) → m.at.0 < 16777216 → after ≡ set seen (note_at m) true
    → Notes rs i seen → Notes rs (i + 1) after
notes_more rs i m seen after q lt e n = record {
  room = ap length e ∙ simp length-set n.room;
  kinds =
      subst (λ (l : List Mapping). Kinds l after) (ap (mappings_from rs 0) (sym (add-one i)))
      (subst (Kinds (mappings_from rs 0 (suc i))) (sym e)
      (noted_more m (mappings_from rs 0 i) (mappings_from rs 0 (suc i)) seen lt n.room
      (λ x k. kind_more rs x k i 0 ∙ ap (λ (y : Mapping). is_in x k y or has_kind (mappings_from rs 0 i) x k) (ap (λ (j : ℕ). mapping_of (record_at rs j)) (let z : 0 + i ≡ i = omega arith in z) ∙ sym q))
      n.kinds));
}

-- all records passed
pub notes_end : (rs : List ℕ) (i : ℕ) (seen : List Bool) → 12 * i ≤ length rs → length rs ≤ 12 * i → Notes rs i seen → Kinds (mappings rs) seen
unfolding mappings
notes_end rs i seen lo hi n = subst (λ (k : ℕ). Kinds (mappings_from rs 0 k) seen) (let e : i ≡ length rs / 12 = omega arith in e) n.kinds

-- no refusal is a fine list
pub bad-not-fine : (b : BadList) → ◌≡◌ {A = Result Unit BadList} (Err b) (Ok tt) → ⊥
bad-not-fine b e = cc
