-- What the check of a list promises of its mappings. Assumes nothing.
use Rattle.std.proofs.Common.{Result, Ok, Err}
use Rattle.records.specs.declared.BadList.{BadList}
use Rattle.records.specs.Names.{◌≡◌, Bool, true, false, List, [], ◌∷◌, ℕ, zero, suc, ◌+◌, ◌/◌, ◌≤◌, ◌<◌, length, pick, ◌or◌, Mapping}
use Rattle.records.proofs.Names.{refl, sym, ◌∙◌, subst, true≢false, arith, dec_le, not-false, pick_yes, pick_no, and_left, and_right, or_yes}
use Rattle.records.proofs.Names.{or_no, record_at, mapping_of, mappings_from, mappings, overlap, proper, well_formed, bad, clashes, overlapping}
use Rattle.records.proofs.Names.{checked_from, begun, checked}
use Rattle.records.proofs.Alls.{All}

-- neither of two tests that fail together holds
pub neither : (a b : Bool) → (a or b) ≡ false → (a ≡ false) × (b ≡ false)
neither true b e = absurd (true≢false (sym (or_yes true b refl) ∙ e))
neither false b e = (refl, sym (or_no false b refl) ∙ e)

-- a record of an accepted list: it is not bad, and overlaps no earlier one
abbrev pub Clean : ℕ → List ℕ → ℕ → Type 0
Clean n rs i = (bad n rs i ≡ false) × (overlapping rs i ≡ false)

module _ (n : ℕ) (rs : List ℕ) where
  step : (b o : Bool) (i : ℕ) (r : Result Unit BadList) → pick b (Err (BadList.BadRecord i)) (pick o (Err (BadList.Overlap i)) r) ≡ Ok tt → ((b ≡ false) × (o ≡ false)) × (r ≡ Ok tt)
  step true o i r e = let z : ◌≡◌ {A = ℕ} 0 1 = cc (pick_yes true (Err (BadList.BadRecord i)) (pick o (Err (BadList.Overlap i)) r) refl) in absurd (omega arith)
  step false true i r e =
      let z : ◌≡◌ {A = ℕ} 0 1 = cc (pick_no false (Err (BadList.BadRecord i)) (pick true (Err (BadList.Overlap i)) r) refl, pick_yes true (Err (BadList.Overlap i)) r refl) in
      absurd (omega arith)
  step false false i r e = ((refl, refl), sym (pick_no false (Err (BadList.BadRecord i)) (pick false (Err (BadList.Overlap i)) r) refl ∙ pick_no false (Err (BadList.Overlap i)) r refl) ∙ e)

  clean_from : (k i j : ℕ) → checked_from n rs i k ≡ Ok tt → i ≤ j → j < i + k → Clean n rs j
  unfolding checked_from
  clean_from zero i j e h l = absurd (omega arith)
  clean_from (suc k) i j e h l =
      let f = step (bad n rs i) (overlapping rs i) i (checked_from n rs (suc i) k) e in
      elim (dec_le j i) [
        | yes g ↦ subst (Clean n rs) (let z : i ≡ j = omega arith in z) f.0
        | no g ↦ clean_from k (suc i) j f.1 (omega arith) (omega arith)
      ]

  pub fine_clean : checked n rs ≡ Ok tt → (i : ℕ) → i < begun rs → Clean n rs i
  unfolding checked
  fine_clean e i h = clean_from (begun rs) 0 i e (omega arith) (omega arith)

-- so each of its mappings is proper
pub proper_at : (n : ℕ) (rs : List ℕ) (i : ℕ) → bad n rs i ≡ false → proper n (mapping_of (record_at rs i)) ≡ true
unfolding bad well_formed
proper_at n rs i e = and_left _ _ (and_right _ _ (and_right _ _ (not-false _ (neither _ _ e).1)))

all_from : (P : Mapping → Type 0) (rs : List ℕ) (n i : ℕ) → ((k : ℕ) → i ≤ k → k < i + n → P (mapping_of (record_at rs k))) → All P (mappings_from rs i n)
unfolding mappings_from
all_from P rs zero i f = tt
all_from P rs (suc n) i f = (f i (omega arith) (omega arith), all_from P rs n (suc i) (λ k h l. f k (omega arith) (omega arith)))

pub all-records : (P : Mapping → Type 0) (rs : List ℕ) → ((k : ℕ) → k < length rs / 12 → P (mapping_of (record_at rs k))) → All P (mappings rs)
unfolding mappings
all-records P rs f = all_from P rs (length rs / 12) 0 (λ k h l. f k (omega arith))

pub accepted-proper : (n : ℕ) (rs : List ℕ) → checked n rs ≡ Ok tt → All (λ m. proper n m ≡ true) (mappings rs)
accepted-proper n rs e = all-records _ rs (λ k h. proper_at n rs k (fine_clean n rs e k (omega arith)).0)

-- and none overlaps a later one
abbrev pub Disjoint : List Mapping → Type 0
Disjoint [] = Unit
Disjoint (m ∷ ms) = All (λ x. overlap m x ≡ false) ms × Disjoint ms

pub clash_at : (rs : List ℕ) (m : Mapping) (n i j : ℕ) → clashes (mappings_from rs i n) m ≡ false → i ≤ j → j < i + n → overlap (mapping_of (record_at rs j)) m ≡ false
unfolding clashes mappings_from
clash_at rs m zero i j e h l = absurd (omega arith)
clash_at rs m (suc n) i j e h l =
    let o = neither (overlap (mapping_of (record_at rs i)) m) (clashes (mappings_from rs (suc i) n) m) e in
    elim (dec_le j i) [
      | yes g ↦ subst (λ (k : ℕ). overlap (mapping_of (record_at rs k)) m ≡ false) (let z : i ≡ j = omega arith in z) o.0
      | no g ↦ clash_at rs m n (suc i) j o.1 (omega arith) (omega arith)
    ]

disjoint_from : (rs : List ℕ) (n i : ℕ) → ((j k : ℕ) → j < k → k < i + n → overlap (mapping_of (record_at rs j)) (mapping_of (record_at rs k)) ≡ false) → Disjoint (mappings_from rs i n)
unfolding mappings_from
disjoint_from rs zero i f = tt
disjoint_from rs (suc n) i f = (
  all_from (λ x. overlap (mapping_of (record_at rs i)) x ≡ false) rs n (suc i) (λ k h l. f i k (omega arith) (omega arith)),
  disjoint_from rs n (suc i) (λ j k h l. f j k h (omega arith)),
)

pub accepted_disjoint : (n : ℕ) (rs : List ℕ) → checked n rs ≡ Ok tt → Disjoint (mappings rs)
unfolding mappings overlapping
accepted_disjoint n rs e =
    disjoint_from rs (length rs / 12) 0
    (λ j k h l. clash_at rs (mapping_of (record_at rs k)) k 0 j (fine_clean n rs e k (omega arith)).1 (omega arith) (omega arith))
