-- Where two images part (02, P14): the first word that differs, whose the part is that remains, and how many words differ.
use Rattle.std.specs.Prelude.{◌+◌, ◌*◌, ◌/◌, ◌%◌}
use Rattle.parting.specs.Names.{ℕ, zero, suc, Bool, not, List, eqb, ltb, length, drop, min, ◌and◌, pick, Bor, word_at, Owner, Parting, Option, Some, None}

-- refusal 4 asks of two lengths that they are multiples of 4
unfoldable pub whole_words : ℕ → ℕ → Bool
whole_words n m = eqb (n % 4) 0 and eqb (m % 4) 0

-- how many words two images have in common
abbrev pub common : List ℕ → List ℕ → ℕ
common new signed = min (length new) (length signed) / 4

-- word k differs
abbrev pub differs_at : List ℕ → List ℕ → ℕ → Bool
differs_at new signed k = not (eqb (word_at new (4 * k)) (word_at signed (4 * k)))

-- how many of the first n words differ
unfoldable pub differing : List ℕ → List ℕ → ℕ → ℕ
differing new signed zero = 0
differing new signed (suc n) = differing new signed n + pick (differs_at new signed n) 1 0

-- the first of n words from word k on that differs; the word behind them where none does
unfoldable pub first_differing : List ℕ → List ℕ → ℕ → ℕ → ℕ
first_differing new signed k zero = k
first_differing new signed k (suc n) = pick (differs_at new signed k) k (first_differing new signed (suc k) n)

-- over how many bytes two images agree, by words
abbrev pub agreed : List ℕ → List ℕ → ℕ
agreed new signed = 4 * first_differing new signed 0 (common new signed)

-- whose the part is, of two lengths whose images agree over k bytes: the signed one's where the new one is the shorter and agrees throughout
unfoldable pub owner_at : ℕ → ℕ → ℕ → Owner
owner_at k n m = pick (eqb k n) (pick (ltb n m) Owner.Signed Owner.New) Owner.New

-- whose the part is, and where it begins; under refusal 4 at the end of the new one
unfoldable pub owner_of : List ℕ → List ℕ → Owner
owner_of new signed = pick (whole_words (length new) (length signed)) (owner_at (agreed new signed) (length new) (length signed)) Owner.New

unfoldable pub start_of : List ℕ → List ℕ → ℕ
start_of new signed = pick (whole_words (length new) (length signed)) (agreed new signed) (length new)

-- the number of an owner
abbrev pub owner_number : Owner → ℕ
owner_number Owner.New = 1
owner_number Owner.Signed = 2

-- an owner's of two things, one of the new image and one of the signed one
abbrev pub of_owner : {A : Type 0} → Owner → A → A → A
of_owner Owner.New new signed = new
of_owner Owner.Signed new signed = signed

-- the bytes of the part, which runs to its image's end
abbrev pub part_bytes : List ℕ → List ℕ → List ℕ
part_bytes new signed = drop (start_of new signed) (of_owner (owner_of new signed) new signed)

-- whose part that is: the block of its image and the offset there
abbrev pub start_in : ℕ → Bor (List ℕ) → ℕ × ℕ
start_in k image = (image.ref_ptr.0, k + image.ref_ptr.1)

abbrev pub part_source : Bor (List ℕ) → Bor (List ℕ) → ℕ × ℕ
part_source new signed = start_in (start_of new.now signed.now) (of_owner (owner_of new.now signed.now) new signed)

-- the second call: whose the part is, where it begins and how many words differ over the common length; nothing under refusal 4
abbrev pub parted : Owner → ℕ → ℕ → Option Parting
parted o k d = Some (record { owner = o; start = k; words = d })

unfoldable pub comparison_of : List ℕ → List ℕ → Option Parting
comparison_of new signed =
    pick (whole_words (length new) (length signed))
    (parted (owner_of new signed) (start_of new signed) (differing new signed (common new signed)))
    None

-- the paper's number of an answer, 0 where nothing is refused; whose the part is; where it begins, of a new image of n bytes; how many words differ
abbrev pub comparison_number : Option Parting → ℕ
comparison_number None = 4
comparison_number (Some p) = 0

abbrev pub comparison_owner : Option Parting → Owner
comparison_owner None = Owner.New
comparison_owner (Some p) = p.owner

abbrev pub comparison_start : Option Parting → ℕ → ℕ
comparison_start None n = n
comparison_start (Some p) n = p.start

abbrev pub comparison_words : Option Parting → ℕ
comparison_words None = 0
comparison_words (Some p) = p.words
