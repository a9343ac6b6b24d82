-- Which records of a list are refused (01, "The builder"; "When the unit says no", 10 and 11).
use Rattle.std.specs.Prelude.{Result, Ok, Err}
use Rattle.records.specs.declared.BadList.{BadList}
use Rattle.std.specs.Prelude.{◌+◌, ◌/◌, ◌∷◌}
use Rattle.records.specs.Names.{ℕ, zero, suc, Bool, false, not, List, [], leb, length, pick, ◌or◌, Mapping}
use Rattle.records.specs.Mappings.{record_size, record_at, mapping_of, mappings_from, overlap}
use Rattle.records.specs.Checks.{well_formed}

-- the most records of a list (02, P5)
abbrev pub most : ℕ
most = 1024

-- 10: record i is past the limit, short or bad
unfoldable pub bad : ℕ → List ℕ → ℕ → Bool
bad n rs i = leb most i or not (well_formed n (record_at rs i))

-- a mapping of the list overlaps m
unfoldable pub clashes : List Mapping → Mapping → Bool
clashes [] m = false
clashes (x ∷ xs) m = overlap x m or clashes xs m

-- 11: record i overlaps an earlier one
unfoldable pub overlapping : List ℕ → ℕ → Bool
overlapping rs i = clashes (mappings_from rs 0 i) (mapping_of (record_at rs i))

-- the first refusal among the k records from record i on
unfoldable pub checked_from : ℕ → List ℕ → ℕ → ℕ → Result Unit BadList
checked_from n rs i zero = Ok tt
checked_from n rs i (suc k) =
    pick (bad n rs i) (Err (BadList.BadRecord i)) (pick (overlapping rs i) (Err (BadList.Overlap i)) (checked_from n rs (suc i) k))

-- how many records the input begins
abbrev pub begun : List ℕ → ℕ
begun rs = (length rs + 11) / record_size

-- the first refusal, record by record
unfoldable pub checked : ℕ → List ℕ → Result Unit BadList
checked n rs = checked_from n rs 0 (begun rs)

-- the index beside a refusal, 0 where nothing is refused
abbrev pub checked_index : Result Unit BadList → ℕ
checked_index (Ok tt) = 0
checked_index (Err (BadList.BadRecord i)) = i
checked_index (Err (BadList.Overlap i)) = i
