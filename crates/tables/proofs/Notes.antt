-- The kinds of page of each megabyte, noted one mapping after the other. Assumes nothing.
use Rattle.std.proofs.Common.{Some, None}
use Rattle.walk.specs.declared.Table.{Table}
use Rattle.tables.specs.Names.{◌≡◌, Bool, false, List, ℕ, ◌+◌, get_or, pick, ◌or◌, Kind, Mapping}
use Rattle.tables.proofs.Names.{refl, ap₂, true, true≢false, ◌<◌, table_of}
use mathlib.Core.Bool.{◌||◌}
use Rattle.page.specs.Words.{megabytes}
use Rattle.records.specs.Noted.{Kinds}
use Rattle.tables.specs.Kinds.{table_by, has_table}

-- the tables that a list's notes give are the list's
pub by_kinds : (ms : List Mapping) (seen : List Bool) (i : ℕ) → i < megabytes → Kinds ms seen → table_by seen i ≡ table_of ms i
unfolding table_by table_of
by_kinds ms seen i l f =
    ap₂ (λ (a b : Bool). pick a (Some Table.Fine) (pick b (Some Table.Coarse) None)) (f Kind.Tiny i l) (ap₂ (λ (a b : Bool). a or b) (f Kind.Large i l) (f Kind.Small i l))

-- the machine's or is that of the definitions
pub or_is : (p q : Bool) → (p || q) ≡ (p or q)
unfolding ◌or◌
or_is true q = refl
or_is false q = refl

-- a megabyte that the notes give no table
absent_by : (d c : Bool) → (d or c) ≡ false → pick c (Some Table.Fine) (pick d (Some Table.Coarse) None) ≡ None
unfolding pick ◌or◌
absent_by true c e = absurd (true≢false e)
absent_by false true e = absurd (true≢false e)
absent_by false false e = refl

pub no_table : (seen : List Bool) (i : ℕ) → has_table seen i ≡ false → table_by seen i ≡ None
unfolding has_table table_by
no_table seen i e = absent_by (get_or seen (16 + i) false or get_or seen (32 + i) false) (get_or seen (48 + i) false) e
