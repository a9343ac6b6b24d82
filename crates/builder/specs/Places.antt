-- The first level of a list's tables, kept for a base of 0 while the image is written (01, "The builder").
use Rattle.std.specs.Prelude.{Some}
use Rattle.walk.specs.declared.Table.{Table}
use Rattle.std.specs.Prelude.{None}
use Rattle.std.specs.Prelude.{◌+◌, ◌-◌, ◌*◌, ◌%◌, ◌<◌, ◌≤◌, ◌≡◌}
use Rattle.builder.specs.Names.{ℕ, Bool, List, eqb, length, get_or, pick, megabytes, Mapping}
use Rattle.builder.specs.Names.{table_of, table_size, table_start, image_length, Kinds, first_by}

-- the words are those of a list's tables, zero where a megabyte has none
abbrev pub Firsts : List Mapping → List ℕ → Type 0
Firsts ms firsts =
    (i : ℕ) → i < megabytes → get_or firsts i 0 ≡ first_by (table_of ms i) (table_start megabytes ms i) None

-- a first-level word for a base, by that for a base of 0
unfoldable pub based : ℕ → ℕ → ℕ
based base w = pick (eqb w 0) 0 (base + w)

-- the table that a word names, by its two low bits, lies in the first n bytes
pub record TableInside (n w : ℕ) : Type 0 where
  pub fine : w % 4 ≡ 3 → w - 3 + table_size (Some Table.Fine) ≤ n
  pub coarse : w % 4 ≡ 1 → w - 1 + table_size (Some Table.Coarse) ≤ n

-- 16 words whose tables lie in the first n bytes, behind the first level
pub record Level (n : ℕ) (firsts : List ℕ) : Type 0 where
  pub words : length firsts ≡ megabytes
  pub room : 4 * megabytes ≤ n
  pub tables : (i : ℕ) → i < megabytes → TableInside n (get_or firsts i 0)

-- what is placed by notes: tables that lie below the end r, and where the notes are a list's, that list's
pub record Placed (seen : List Bool) (r : ℕ) (firsts : List ℕ) : Type 0 where
  pub level : Level r firsts
  pub ends : (ms : List Mapping) → Kinds ms seen → r ≡ image_length megabytes ms
  pub begins : (ms : List Mapping) → Kinds ms seen → Firsts ms firsts
