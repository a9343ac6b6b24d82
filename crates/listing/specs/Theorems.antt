-- What reading and printing promise together, and what reading promises the builder.
use Rattle.std.specs.Prelude.{Ok}
use Rattle.std.specs.Prelude.{Err}
use Rattle.records.specs.declared.BadList.{BadList}
use Rattle.std.specs.Prelude.{◌+◌, ◌*◌, ◌/◌, ◌<◌, ◌≤◌, ◌≡◌}
use Rattle.listing.specs.Names.{ℕ, true, List, length, get_or, take, megabytes, record_size, mappings, most}
use Rattle.listing.specs.Names.{checked}
use Rattle.listing.specs.Texts.{read_text}
use Rattle.wire.specs.Words.{pasted}
use Rattle.listing.specs.Prints.{printed, formed, print_text}
use Rattle.listing.specs.Purposes.{purpose_of}

-- a text that is accepted is never refused 10 (01, "When the unit says no"): its records are at most as many as the builder takes, and none is bad
abbrev pub NeverBad : Type 0
NeverBad =
    (t rs ls : List ℕ) (n i : ℕ) → (read_text t rs ls).answer ≡ Ok n
    → (n ≤ most) × (checked megabytes (take (record_size * n) (read_text t rs ls).records) ≡ Err (BadList.BadRecord i) → ⊥)

-- well-formed records, printed and read back, are the same records, record j from line j + 1
abbrev pub ReadAgain : Type 0
ReadAgain =
    (rs room ls : List ℕ) → formed rs ≡ true → ((i : ℕ) → get_or rs i 0 < 256) → record_size * most ≤ length room → most ≤ length ls
    → ((read_text (printed (mappings rs)) room ls).answer ≡ Ok (length rs / record_size))
    × ((read_text (printed (mappings rs)) room ls).records ≡ pasted room 0 rs)
    × ((j : ℕ) → j < length rs / record_size → get_or (read_text (printed (mappings rs)) room ls).lines j 0 ≡ 1 + j)

-- what is printed lies in the memory
abbrev pub PrintedWithin : Type 0
PrintedWithin = (rs l : List ℕ) (k : ℕ) → (print_text rs l).answer ≡ Ok k → k ≤ length l

-- what a line is for lies in the text
abbrev pub PurposeWithin : Type 0
PurposeWithin = (t : List ℕ) (k : ℕ) → ((purpose_of t k).from ≤ (purpose_of t k).to) × ((purpose_of t k).to ≤ length t)
