-- What mkimage writes (01, "The builder", the program).
use Rattle.std.specs.Prelude.{Result, Ok, Err}
use Rattle.builder.specs.declared.BuildError.{BuildError}
use Rattle.std.specs.Prelude.{◌+◌, ◌/◌, ◌%◌, ◌∷◌, ◌++◌}
use Rattle.mkimage.specs.Names.{ℕ, zero, suc, List, [], ltb, length, drop, pick}
use Rattle.page.specs.Words.{megabytes}
use Rattle.records.specs.Mappings.{mappings}
use Rattle.builder.specs.Image.{image}
use Rattle.builder.specs.Build.{answer_of, built_number, built_value}
use Rattle.wire.specs.Words.{Shown, shown}

-- the address at which the image is to stand
abbrev pub base : ℕ
base = 0x2000_0000

-- a number of at most k decimal digits as text
unfoldable pub decimal_by : ℕ → ℕ → List ℕ
decimal_by zero n = []
decimal_by (suc k) n = pick (ltb n 10) ((48 + n) ∷ []) (decimal_by k (n / 10) ++ ((48 + n % 10) ∷ []))

-- a number of 64 bits has at most 20
abbrev pub decimal : ℕ → List ℕ
decimal n = decimal_by 20 n

-- the letters of "refused " and of " at ", and the line end
abbrev pub refused_text : List ℕ
refused_text = 114 ∷ 101 ∷ 102 ∷ 117 ∷ 115 ∷ 101 ∷ 100 ∷ 32 ∷ []

abbrev pub at_text : List ℕ
at_text = 32 ∷ 97 ∷ 116 ∷ 32 ∷ []

abbrev pub line_end : List ℕ
line_end = 10 ∷ []

-- "refused K at I" and a line end
unfoldable pub message : ℕ → ℕ → List ℕ
message k i = (((refused_text ++ decimal k) ++ at_text) ++ decimal i) ++ line_end

-- the image, or the message of a refusal
abbrev pub output_bytes : Result ℕ BuildError → List ℕ → List ℕ
output_bytes (Ok n) img = img
output_bytes (Err BuildError.BadMemory) img = message (built_number (Err BuildError.BadMemory)) (built_value (Err BuildError.BadMemory))
output_bytes (Err (BuildError.BadRecord i)) img = message (built_number (Err (BuildError.BadRecord i))) (built_value (Err (BuildError.BadRecord i)))
output_bytes (Err (BuildError.Overlap i)) img = message (built_number (Err (BuildError.Overlap i))) (built_value (Err (BuildError.Overlap i)))
output_bytes (Err (BuildError.TooLong c)) img = message (built_number (Err (BuildError.TooLong c))) (built_value (Err (BuildError.TooLong c)))

-- bytes at the front of a memory
abbrev pub shown_in : List ℕ → List ℕ → Shown
shown_in w l = shown (length w) (w ++ drop (length w) l)

-- what is written for a list of records, built in a memory; a memory too short for any image and any message shows
-- nothing
unfoldable pub output_of : List ℕ → List ℕ → Shown
output_of rs l =
    pick (ltb (length l) 64) (shown_in [] l)
    (shown_in (output_bytes (answer_of rs base (length l)) (image megabytes (mappings rs) base)) l)
