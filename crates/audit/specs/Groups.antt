-- The groups of a table's words (02, P4): a large or small page's word stands equal over its whole aligned group.
use Rattle.std.specs.Prelude.{Result, Ok, Err}
use Rattle.walk.specs.declared.Unfound.{Unfound}
use Rattle.walk.specs.declared.Page.{Page}
use Rattle.std.specs.Prelude.{◌+◌, ◌*◌, ◌/◌}
use Rattle.audit.specs.Names.{ℕ, zero, suc, Bool, true, not, List, eqb, ◌and◌, word_at, Table, second_of, repeats}

-- word j of the table at an offset of a memory
abbrev pub table_word : List ℕ → ℕ → ℕ → ℕ
table_word l o j = word_at l (o + 4 * j)

-- how many words the page takes that a word says; none where it says no page
abbrev pub taken : Table → Result Page Unfound → ℕ
taken t (Ok p) = repeats t p.kind
taken t (Err Unfound.NoPage) = 0
taken t (Err Unfound.Missing) = 0

abbrev pub taken_at : Table → List ℕ → ℕ → ℕ → ℕ
taken_at t l o j = taken t (second_of t (table_word l o j))

-- n words from word j on are all w
unfoldable pub all_are : List ℕ → ℕ → ℕ → ℕ → ℕ → Bool
all_are l o w j zero = true
all_are l o w j (suc n) = eqb (table_word l o j) w and all_are l o w (suc j) n

-- the aligned group of n words that has word j is all equal to it
abbrev pub equal_over : List ℕ → ℕ → ℕ → ℕ → Bool
equal_over l o j n = all_are l o (table_word l o j) (j / n * n) n

-- 18: word j says a page, and its group, of as many words as the page takes, is not all equal
unfoldable pub broken : Table → List ℕ → ℕ → ℕ → Bool
broken t l o j = not (equal_over l o j (taken_at t l o j))
