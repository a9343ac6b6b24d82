-- Which word stands where in the image of a list, under a first level of n words (01, "The builder", "The walk"; 02,
-- P3).
use Rattle.walk.specs.declared.Table.{Table}
use Rattle.std.specs.Prelude.{Option, Some, None}
use Rattle.std.specs.Prelude.{◌+◌, ◌-◌, ◌*◌, ◌/◌, ◌%◌, ◌^◌}
use Rattle.tables.specs.Names.{ℕ, zero, suc, List, eqb, ltb, leb, pick, ◌and◌, upper, virtual, low_bits, type_of}
use Rattle.tables.specs.Names.{VirtualAddress, Mapping, holder}
use Rattle.tables.specs.Tables.{table_of, table_end, table_start}

-- the word of a section, or of none
abbrev pub section_word : Option Mapping → ℕ
section_word (Some m) = upper 20 m.to.0 + 1024 * (m.access % 4) + 2
section_word None = 0

-- the first-level word of a megabyte: its table's address, or the section that holds its first address
abbrev pub first_by : Option Table → ℕ → Option Mapping → ℕ
first_by (Some Table.Fine) at h = at + 3
first_by (Some Table.Coarse) at h = at + 1
first_by None at h = section_word h

unfoldable pub first_word : ℕ → List Mapping → ℕ → ℕ → ℕ
first_word n ms base i = first_by (table_of ms i) (base + table_start n ms i) (holder ms (virtual (i * 2 ^ 20)))

-- the word of a large, small or tiny page, or of none
abbrev pub page_word : Option Mapping → ℕ
page_word (Some m) = upper (low_bits m.kind) m.to.0 + 16 * (m.access % 4) + type_of m.kind
page_word None = 0

-- how many low address bits one word stands for: in a table, or at the first level
abbrev pub step_bits : Option Table → ℕ
step_bits (Some Table.Fine) = 10
step_bits (Some Table.Coarse) = 12
step_bits None = 20

-- the first address that word j of a table of megabyte i stands for
abbrev pub address_of : Option Table → ℕ → ℕ → VirtualAddress
address_of t i j = virtual (i * 2 ^ 20 + j * 2 ^ step_bits t)

-- word j of a table of megabyte i is that of the page that holds its first address: a page's word stands wherever the
-- page has addresses
unfoldable pub second_word : List Mapping → Option Table → ℕ → ℕ → ℕ
second_word ms t i j = page_word (holder ms (address_of t i j))

-- the first word of its megabyte's table that stands for a mapping's region, and how many of megabyte i's do: a large
-- page takes 16 words of a coarse table and 64 of a fine one, a small page 1 and 4
abbrev pub word_in : Option Table → Mapping → ℕ
word_in t m = upper (low_bits m.kind) (m.at.0 % 2 ^ 20) / 2 ^ step_bits t

unfoldable pub words_in : Option Table → ℕ → Mapping → ℕ
words_in t i m = pick (eqb (m.at.0 / 2 ^ 20) i) (2 ^ low_bits m.kind / 2 ^ step_bits t) 0

-- the word at offset o among the tables of the megabytes below i, zero between them
unfoldable pub in_tables : ℕ → List Mapping → ℕ → ℕ → ℕ
in_tables n ms zero o = 0
in_tables n ms (suc i) o =
    pick (leb (table_start n ms i) o and ltb o (table_end n ms (suc i)))
    (second_word ms (table_of ms i) i ((o - table_start n ms i) / 4))
    (in_tables n ms i o)

-- word k of the image
unfoldable pub image_word : ℕ → List Mapping → ℕ → ℕ → ℕ
image_word n ms base k = pick (ltb k n) (first_word n ms base k) (in_tables n ms n (4 * k))
