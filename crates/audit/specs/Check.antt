-- What the check of an image answers (02, P4): 4; then 17 and 18 with the address of the first refused word, in first-level order and then by index.
use Rattle.std.specs.Prelude.{Result, Ok, Err}
use Rattle.audit.specs.declared.ImageError.{ImageError}
use Rattle.std.specs.Prelude.{◌+◌, ◌-◌, ◌*◌, ◌%◌, ◌^◌}
use Rattle.audit.specs.Names.{ℕ, zero, suc, Bool, not, List, eqb, leb, ltb, length, ◌and◌, pick, physical, memory_ok, word_at}
use Rattle.audit.specs.Names.{First, Table, first_of, index_limit, base_bits}
use Rattle.audit.specs.Groups.{broken}
use Rattle.audit.specs.Pages.{pages_in}

-- what refusal 4 asks of an image's memory: the first-level table stands at its base
unfoldable pub image_ok : ℕ → ℕ → Bool
image_ok base n = eqb (base % 2 ^ base_bits) 0 and memory_ok base n

-- a table lies wholly in the n bytes at base
unfoldable pub table_in : ℕ → ℕ → Table → ℕ → Bool
table_in base n t at = leb base at and leb (at + 4 * index_limit t) (base + n)

-- n words of a table from word j on: the first that is broken, else what follows
unfoldable pub words_checked : Table → List ℕ → ℕ → ℕ → ℕ → ℕ → Result ℕ ImageError → Result ℕ ImageError
words_checked t l base at j zero rest = rest
words_checked t l base at j (suc n) rest =
    pick (broken t l (at - base) j) (Err (ImageError.Unequal (physical (at + 4 * j)))) (words_checked t l base at (suc j) n rest)

-- the table that first-level word i names: outside, else its words, else what follows
unfoldable pub table_checked : Table → List ℕ → ℕ → ℕ → ℕ → Result ℕ ImageError → Result ℕ ImageError
table_checked t l base i at rest =
    pick (not (table_in base (length l) t at)) (Err (ImageError.Outside (physical (base + 4 * i)))) (words_checked t l base at 0 (index_limit t) rest)

-- first-level word i, by what it says
abbrev pub first_checked : List ℕ → ℕ → ℕ → First → Result ℕ ImageError → Result ℕ ImageError
first_checked l base i First.Fault rest = rest
first_checked l base i (First.Whole p) rest = rest
first_checked l base i (First.Coarse at) rest = table_checked Table.Coarse l base i at.0 rest
first_checked l base i (First.Fine at) rest = table_checked Table.Fine l base i at.0 rest

-- n first-level words from word i on
unfoldable pub level_checked : List ℕ → ℕ → ℕ → ℕ → Result ℕ ImageError → Result ℕ ImageError
level_checked l base i zero rest = rest
level_checked l base i (suc n) rest = first_checked l base i (first_of (word_at l (4 * i))) (level_checked l base (suc i) n rest)

-- the image that a memory at a base holds, under a first level of n words: refused, or good, with the number of its pages
unfoldable pub check_of : ℕ → List ℕ → ℕ → Result ℕ ImageError
check_of n l base =
    pick (not (image_ok base (length l))) (Err ImageError.BadMemory)
    (pick (ltb (length l) (4 * n)) (Err (ImageError.Outside (physical base))) (level_checked l base 0 n (Ok (length (pages_in n l base)))))

-- the paper's number of a verdict, 0 where nothing is refused, and the value beside it
abbrev pub verdict_number : Result ℕ ImageError → ℕ
verdict_number (Ok n) = 0
verdict_number (Err ImageError.BadMemory) = 4
verdict_number (Err (ImageError.Outside at)) = 17
verdict_number (Err (ImageError.Unequal at)) = 18

abbrev pub verdict_value : Result ℕ ImageError → ℕ
verdict_value (Ok n) = n
verdict_value (Err ImageError.BadMemory) = 0
verdict_value (Err (ImageError.Outside at)) = at.0
verdict_value (Err (ImageError.Unequal at)) = at.0
