-- What the byte boundary answers in one number, or in six words.
use Rattle.recording.specs.declared.RecordingError.{RecordingError}
use Rattle.audit.specs.declared.ListError.{ListError}
use Rattle.audit.specs.declared.ImageError.{ImageError}
use Rattle.std.specs.Prelude.{Result, Ok, Err}
use Rattle.builder.specs.declared.BuildError.{BuildError}
use Rattle.std.specs.Prelude.{◌+◌, ◌*◌, ◌%◌, ◌^◌, ◌∷◌, ◌++◌}
use Rattle.capi.specs.Names.{ℕ, List, wide, Place, place_code, built_number, built_value, verdict_number, verdict_value}
use Rattle.capi.specs.Names.{inventory_number, inventory_value, Owner, owner_number, Option, Parting, comparison_number, comparison_owner, comparison_start, comparison_words}
use Rattle.capi.specs.Names.{written_number, written_value}

-- where four bytes lie and the word they are: memory * 2^60 + offset * 2^32 + word; 0 of no bytes, whose word is 0
abbrev pub place_number : Place → ℕ → ℕ
place_number p w = place_code p * 2 ^ 32 + w

-- a refusal: 2^63 + number * 2^32 + index, count or address
abbrev pub refused : ℕ → ℕ → ℕ
refused k v = 2 ^ 63 + k * 2 ^ 32 + v

abbrev pub refusal_word : Result ℕ BuildError → ℕ
refusal_word b = refused (built_number b) (built_value b)

-- the image's length, or a refusal
abbrev pub built_word : Result ℕ BuildError → ℕ
built_word (Ok n) = n
built_word (Err BuildError.BadMemory) = refusal_word (Err BuildError.BadMemory)
built_word (Err (BuildError.BadRecord i)) = refusal_word (Err (BuildError.BadRecord i))
built_word (Err (BuildError.Overlap i)) = refusal_word (Err (BuildError.Overlap i))
built_word (Err (BuildError.TooLong n)) = refusal_word (Err (BuildError.TooLong n))

-- the index or count in the bits that there are for it
abbrev pub cut_built : Result ℕ BuildError → Result ℕ BuildError
cut_built (Ok n) = Ok n
cut_built (Err BuildError.BadMemory) = Err BuildError.BadMemory
cut_built (Err (BuildError.BadRecord i)) = Err (BuildError.BadRecord (i % 2 ^ 32))
cut_built (Err (BuildError.Overlap i)) = Err (BuildError.Overlap (i % 2 ^ 32))
cut_built (Err (BuildError.TooLong n)) = Err (BuildError.TooLong (n % 2 ^ 32))

-- the verdict on an image: 0, or a refusal
abbrev pub verdict_word : Result ℕ ImageError → ℕ
verdict_word (Ok n) = 0
verdict_word (Err ImageError.BadMemory) = refused (verdict_number (Err ImageError.BadMemory)) (verdict_value (Err ImageError.BadMemory))
verdict_word (Err (ImageError.Outside at)) = refused (verdict_number (Err (ImageError.Outside at))) (verdict_value (Err (ImageError.Outside at)))
verdict_word (Err (ImageError.Unequal at)) = refused (verdict_number (Err (ImageError.Unequal at))) (verdict_value (Err (ImageError.Unequal at)))

-- the length of an image's records, or a refusal
abbrev pub inventory_word : Result ℕ ListError → ℕ
inventory_word (Ok n) = n
inventory_word (Err (ListError.Image e)) = verdict_word (Err e)
inventory_word (Err (ListError.TooShort n)) = refused (inventory_number (Err (ListError.TooShort n))) (inventory_value (Err (ListError.TooShort n)))

-- the number of pages in the bits that there are for it
abbrev pub cut_inventory : Result ℕ ListError → Result ℕ ListError
cut_inventory (Ok n) = Ok n
cut_inventory (Err (ListError.Image e)) = Err (ListError.Image e)
cut_inventory (Err (ListError.TooShort n)) = Err (ListError.TooShort (n % 2 ^ 32))

-- the bytes of a recording or of its calls, or a refusal
abbrev pub written_word : Result ℕ RecordingError → ℕ
written_word (Ok n) = n
written_word (Err (RecordingError.Bad i)) = refused (written_number (Err (RecordingError.Bad i))) (written_value (Err (RecordingError.Bad i)))
written_word (Err (RecordingError.TooShort n)) = refused (written_number (Err (RecordingError.TooShort n))) (written_value (Err (RecordingError.TooShort n)))

-- the index or the bytes needed in the bits that there are for it
abbrev pub cut_written : Result ℕ RecordingError → Result ℕ RecordingError
cut_written (Ok n) = Ok n
cut_written (Err (RecordingError.Bad i)) = Err (RecordingError.Bad (i % 2 ^ 32))
cut_written (Err (RecordingError.TooShort n)) = Err (RecordingError.TooShort (n % 2 ^ 32))

-- a refusal's number or 0, whose the part is, its offset there, and the words that differ
abbrev pub parting_words : ℕ → Owner → ℕ → ℕ → List ℕ
parting_words number o start words = number ∷ owner_number o ∷ (wide start ++ wide words)

-- the same of an answer, for a new image of n bytes
abbrev pub comparison_said : Option Parting → ℕ → List ℕ
comparison_said c n = parting_words (comparison_number c) (comparison_owner c) (comparison_start c n) (comparison_words c)
