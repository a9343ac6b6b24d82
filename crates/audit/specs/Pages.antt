-- The pages of an image as mappings, in rising virtual order, one for each page (02, P4).
use Rattle.std.specs.Prelude.{Result, Ok, Err}
use Rattle.walk.specs.declared.Unfound.{Unfound}
use Rattle.std.specs.Prelude.{◌+◌, ◌-◌, ◌*◌, ◌%◌, ◌^◌, ◌∷◌, ◌++◌}
use Rattle.audit.specs.Names.{ℕ, zero, suc, List, [], eqb, pick, virtual, word_at, Page, First, Table}
use Rattle.audit.specs.Names.{first_of, second_of, index_limit, repeats, word_bits, Mapping}
use Rattle.audit.specs.Groups.{table_word}

-- a page that begins at a virtual address
abbrev pub page_mapping : ℕ → Page → Mapping
page_mapping at p = record { at = virtual at; to = p.frame; kind = p.kind; access = p.access }

-- what word j of a table of megabyte i lists, by what it says: a page where it is the first of the page's words
abbrev pub word_pages : Table → ℕ → ℕ → Result Page Unfound → List Mapping
word_pages t i j (Ok p) = pick (eqb (j % repeats t p.kind) 0) (page_mapping (i * 2 ^ 20 + j * 2 ^ word_bits t) p ∷ []) []
word_pages t i j (Err Unfound.NoPage) = []
word_pages t i j (Err Unfound.Missing) = []

-- n words from word j on, of the table at an offset
unfoldable pub table_pages : Table → List ℕ → ℕ → ℕ → ℕ → ℕ → List Mapping
table_pages t l o i j zero = []
table_pages t l o i j (suc n) = word_pages t i j (second_of t (table_word l o j)) ++ table_pages t l o i (suc j) n

-- what the first-level word of megabyte i lists, by what it says: a section, or the pages of its table
abbrev pub first_pages : List ℕ → ℕ → ℕ → First → List Mapping
first_pages l base i First.Fault = []
first_pages l base i (First.Whole p) = page_mapping (i * 2 ^ 20) p ∷ []
first_pages l base i (First.Coarse at) = table_pages Table.Coarse l (at.0 - base) i 0 (index_limit Table.Coarse)
first_pages l base i (First.Fine at) = table_pages Table.Fine l (at.0 - base) i 0 (index_limit Table.Fine)

-- n first-level words from word i on
unfoldable pub level_pages : List ℕ → ℕ → ℕ → ℕ → List Mapping
level_pages l base i zero = []
level_pages l base i (suc n) = first_pages l base i (first_of (word_at l (4 * i))) ++ level_pages l base (suc i) n

-- the pages of the image that a memory at a base holds, under a first level of n words
abbrev pub pages_in : ℕ → List ℕ → ℕ → List Mapping
pages_in n l base = level_pages l base 0 n
