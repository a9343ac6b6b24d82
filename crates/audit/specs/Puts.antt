-- What the code puts into a lent list, record by record.
use Rattle.std.specs.Prelude.{◌+◌, ◌-◌, ◌*◌, ◌%◌, ◌<◌, ◌≤◌, ◌≡◌}
use Rattle.audit.specs.Names.{ℕ, true, List, length, pasted, record_size, records_of, Mapping, Table, First}
use Rattle.audit.specs.Names.{index_limit, megabytes, first_of, word_at}
use Rattle.audit.specs.Groups.{taken_at}
use Rattle.audit.specs.Pages.{table_pages, first_pages, level_pages}
use Rattle.audit.specs.Check.{table_in}
use Rattle.audit.specs.Runs.{InRun, Unbroken}

-- the records of mappings put from an offset on, and where they end
abbrev pub Put : List Mapping → ℕ → List ℕ → ℕ → List ℕ → Type 0
Put ms at before r after = (r ≡ at + record_size * length ms) × (after ≡ pasted before at (records_of ms))

-- mappings have room from an offset on, in so many bytes
abbrev pub Fits : List Mapping → ℕ → ℕ → Type 0
Fits ms at room = at + record_size * length ms ≤ room

-- n words from word j on, of a table of megabyte i, may be listed
pub record Listable (t : Table) (l : List ℕ) (o i j n at room : ℕ) : Type 0 where
  pub words : o + 4 * (j + n) ≤ length l
  pub index : j + n ≤ index_limit t
  pub megabyte : i < megabytes
  pub unbroken : Unbroken t l o j n
  pub records : Fits (table_pages t l o i j n) at room

-- as a group: a page takes them all, or each takes a word
pub record GroupListable (t : Table) (l : List ℕ) (o i j n at room : ℕ) : Type 0 where
  pub some : 0 < n
  pub aligned : j % n ≡ 0
  pub only : InRun j n (λ k. 1 < taken_at t l o k → taken_at t l o k ≡ n)
  pub run : Listable t l o i j n at room

-- what a first-level word names may be listed: its table lies inside, and no word of it is broken
pub record TableListable (t : Table) (l : List ℕ) (base at : ℕ) : Type 0 where
  pub inside : table_in base (length l) t at ≡ true
  pub unbroken : Unbroken t l (at - base) 0 (index_limit t)

abbrev pub FirstSound : List ℕ → ℕ → First → Type 0
FirstSound l base First.Fault = Unit
FirstSound l base (First.Whole p) = Unit
FirstSound l base (First.Coarse at) = TableListable Table.Coarse l base at.0
FirstSound l base (First.Fine at) = TableListable Table.Fine l base at.0

pub record FirstListable (l : List ℕ) (base i : ℕ) (d : First) (from room : ℕ) : Type 0 where
  pub sound : FirstSound l base d
  pub megabyte : i < megabytes
  pub records : Fits (first_pages l base i d) from room

-- so may all, from the list's start on
pub record LevelListable (l : List ℕ) (base room : ℕ) : Type 0 where
  pub first : 4 * megabytes ≤ length l
  pub sound : (i : ℕ) → i < megabytes → FirstSound l base (first_of (word_at l (4 * i)))
  pub records : Fits (level_pages l base 0 megabytes) 0 room
