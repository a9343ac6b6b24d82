-- Where the tables of a list lie, under a first level of n words (01, "The builder").
use Rattle.std.specs.Prelude.{Option, Some, None}
use Rattle.walk.specs.declared.Table.{Table}
use Rattle.std.specs.Prelude.{◌+◌, ◌-◌, ◌*◌, ◌/◌}
use Rattle.tables.specs.Names.{ℕ, zero, suc, List, pick, ◌or◌, Kind, Mapping, has_kind}

-- the table of megabyte i: fine where it holds a tiny page, else coarse where it holds large or small ones
unfoldable pub table_of : List Mapping → ℕ → Option Table
table_of ms i = pick (has_kind ms i Kind.Tiny) (Some Table.Fine) (pick (has_kind ms i Kind.Large or has_kind ms i Kind.Small) (Some Table.Coarse) None)

-- the bytes of a table
abbrev pub table_size : Option Table → ℕ
table_size (Some Table.Fine) = 4096
table_size (Some Table.Coarse) = 1024
table_size None = 0

-- the next multiple of n, from e on
abbrev pub next_multiple : ℕ → ℕ → ℕ
next_multiple n e = (e + (n - 1)) / n * n

-- where a table begins that follows offset e: at the next multiple of its size
abbrev pub start_after : Option Table → ℕ → ℕ
start_after (Some Table.Fine) e = next_multiple (table_size (Some Table.Fine)) e
start_after (Some Table.Coarse) e = next_multiple (table_size (Some Table.Coarse)) e
start_after None e = e

-- the offset at which the tables of the megabytes below i end
unfoldable pub table_end : ℕ → List Mapping → ℕ → ℕ
table_end n ms zero = 4 * n
table_end n ms (suc i) = start_after (table_of ms i) (table_end n ms i) + table_size (table_of ms i)

-- the offset at which megabyte i's table begins
unfoldable pub table_start : ℕ → List Mapping → ℕ → ℕ
table_start n ms i = start_after (table_of ms i) (table_end n ms i)

-- the image ends with the last table
unfoldable pub image_length : ℕ → List Mapping → ℕ
image_length n ms = table_end n ms n
