-- Which kinds of page stand in which megabyte, noted in one pass over a list, and the tables that the notes give (01,
-- "The builder").
use Rattle.std.specs.Prelude.{Option, Some, None}
use Rattle.walk.specs.declared.Table.{Table}
use Rattle.std.specs.Prelude.{◌+◌}
use Rattle.tables.specs.Names.{ℕ, Bool, false, List, get_or, pick, ◌or◌}

-- the table that the notes give megabyte i
unfoldable pub table_by : List Bool → ℕ → Option Table
table_by seen i =
    pick (get_or seen (48 + i) false) (Some Table.Fine) (pick (get_or seen (16 + i) false or get_or seen (32 + i) false) (Some Table.Coarse) None)

-- whether the notes give megabyte i a table at all
unfoldable pub has_table : List Bool → ℕ → Bool
has_table seen i = (get_or seen (16 + i) false or get_or seen (32 + i) false) or get_or seen (48 + i) false
