-- The mappings of the records, by index. Assumes nothing.
use Rattle.records.specs.Names.{◌≡◌, List, ℕ, zero, suc, ◌+◌, ◌/◌, ◌≤◌, ◌<◌, length, get_or}
use Rattle.records.proofs.Names.{refl, ap, ◌∙◌, arith, record_at, mapping_of, mappings_from, mappings, no_mapping}
use lib.ListN.{get_or-eq_default}

pub from-length : (rs : List ℕ) (n i : ℕ) → length (mappings_from rs i n) ≡ n
unfolding mappings_from
from-length rs zero i = refl
from-length rs (suc n) i = ap suc (from-length rs n (suc i))

pub mappings-length : (rs : List ℕ) → length (mappings rs) ≡ length rs / 12
unfolding mappings
mappings-length rs = from-length rs (length rs / 12) 0

-- mapping j of a list is that of its record
from_at : (rs : List ℕ) (n i j : ℕ) → j < n → get_or (mappings_from rs i n) j no_mapping ≡ mapping_of (record_at rs (i + j))
unfolding mappings_from
from_at rs zero i j h = absurd (omega arith)
from_at rs (suc n) i zero h = ap (λ (k : ℕ). mapping_of (record_at rs k)) (let e : i ≡ i + 0 = omega arith in e)
from_at rs (suc n) i (suc j) h =
    from_at rs n (suc i) j (omega arith) ∙ ap (λ (k : ℕ). mapping_of (record_at rs k)) (let e : suc i + j ≡ i + suc j = omega arith in e)

pub first_at_lem : (rs : List ℕ) (n j : ℕ) → j < n → get_or (mappings_from rs 0 n) j no_mapping ≡ mapping_of (record_at rs j)
first_at_lem rs n j h = from_at rs n 0 j h ∙ ap (λ (k : ℕ). mapping_of (record_at rs k)) (let e : 0 + j ≡ j = omega arith in e)

pub mappings_at : (rs : List ℕ) (j : ℕ) → j < length rs / 12 → get_or (mappings rs) j no_mapping ≡ mapping_of (record_at rs j)
unfolding mappings
mappings_at rs j h = first_at_lem rs (length rs / 12) j h

pub mappings_past : (rs : List ℕ) (j : ℕ) → length rs / 12 ≤ j → get_or (mappings rs) j no_mapping ≡ no_mapping
mappings_past rs j h = get_or-eq_default (mappings rs) no_mapping {n = j} (omega (arith, mappings-length rs))
