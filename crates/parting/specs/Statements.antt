-- What the laws of this crate say (02, P14): when the part is empty, what comes before it, where it begins, and when no word differs.
use Rattle.std.specs.Prelude.{◌*◌, ◌%◌, ◌<◌, ◌≤◌, ◌≡◌, ◌∷◌, ◌⊎◌}
use Rattle.parting.specs.Names.{ℕ, List, [], length, take, Bytes, bytes_of, word_at, Owner, Parting, Option, None}
use Rattle.parting.specs.Parting.{common, differing, owner_of, start_of, part_bytes, parted, comparison_of, comparison_owner, comparison_start}

-- refused exactly where a length is no multiple of 4
abbrev pub RefusedExactly : List ℕ → List ℕ → Type 0
RefusedExactly new signed =
    (comparison_of new signed ≡ None → (length new % 4 ≡ 0) × (length signed % 4 ≡ 0) → ⊥)
    × (((length new % 4 ≡ 0) × (length signed % 4 ≡ 0) → ⊥) → comparison_of new signed ≡ None)

-- the part is empty exactly where the images are equal or the call is refused
abbrev pub EmptyExactly : List ℕ → List ℕ → Type 0
EmptyExactly new signed =
    (part_bytes new signed ≡ [] → (new ≡ signed) ⊎ (comparison_of new signed ≡ None))
    × ((new ≡ signed) ⊎ (comparison_of new signed ≡ None) → part_bytes new signed ≡ [])

-- what comes before it agrees, to the byte
abbrev pub AgreesBefore : List ℕ → List ℕ → Type 0
AgreesBefore new signed = (comparison_of new signed ≡ None → ⊥) → take (start_of new signed) new ≡ take (start_of new signed) signed

-- the first word of a part of the new one differs, or lies past the signed one's end
abbrev pub NewParts : List ℕ → List ℕ → Type 0
NewParts new signed =
    owner_of new signed ≡ Owner.New → start_of new signed < length new
    → (word_at new (start_of new signed) ≡ word_at signed (start_of new signed) → ⊥) ⊎ (length signed ≤ start_of new signed)

-- a part of the signed one is what it has past the new one's end, and is not empty
abbrev pub SignedParts : List ℕ → List ℕ → Type 0
SignedParts new signed = owner_of new signed ≡ Owner.Signed → (start_of new signed ≡ length new) × (length new < length signed)

-- no word differs exactly where the common lengths agree
abbrev pub NoneDiffer : List ℕ → List ℕ → Type 0
NoneDiffer new signed =
    (differing new signed (common new signed) ≡ 0 → take (4 * common new signed) new ≡ take (4 * common new signed) signed)
    × (take (4 * common new signed) new ≡ take (4 * common new signed) signed → differing new signed (common new signed) ≡ 0)

-- the second call says whose the part is and where it begins
abbrev pub SaysWhere : List ℕ → List ℕ → Type 0
SaysWhere new signed =
    (comparison_owner (comparison_of new signed) ≡ owner_of new signed) × (comparison_start (comparison_of new signed) (length new) ≡ start_of new signed)

-- what is signed for the comparison of any two images
pub record Parts (new signed : List ℕ) : Type 0 where
  pub where_it_is : SaysWhere new signed
  pub refused : RefusedExactly new signed
  pub empty : EmptyExactly new signed
  pub before : AgreesBefore new signed
  pub of_new : NewParts new signed
  pub of_signed : SignedParts new signed
  pub none : NoneDiffer new signed

abbrev pub ImagesPart : Type 0
ImagesPart = (new signed : List ℕ) → Bytes new → Bytes signed → Parts new signed

-- two images of words: what the two calls give
abbrev pub WorkedAs : List ℕ → List ℕ → Option Parting → List ℕ → Type 0
WorkedAs new signed c rest = (comparison_of (bytes_of new) (bytes_of signed) ≡ c) × (part_bytes (bytes_of new) (bytes_of signed) ≡ bytes_of rest)

-- the paper's cases, each on two images
pub record CasesWorked : Type 0 where
  pub differ : WorkedAs (7 ∷ 8 ∷ 9 ∷ []) (7 ∷ 5 ∷ 9 ∷ 6 ∷ []) (parted Owner.New 4 1) (8 ∷ 9 ∷ [])
  pub shorter : WorkedAs (7 ∷ []) (7 ∷ 8 ∷ []) (parted Owner.Signed 4 0) (8 ∷ [])
  pub longer : WorkedAs (7 ∷ 8 ∷ []) (7 ∷ []) (parted Owner.New 4 0) (8 ∷ [])
  pub equal : WorkedAs (7 ∷ 8 ∷ []) (7 ∷ 8 ∷ []) (parted Owner.New 8 0) []
  pub uneven : (comparison_of (7 ∷ []) [] ≡ None) × (part_bytes (7 ∷ []) [] ≡ [])
