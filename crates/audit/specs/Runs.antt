-- What the code finds in a run of a table's words, n from word j on.
use Rattle.std.specs.Prelude.{Result, Ok, Err}
use Rattle.std.specs.Prelude.{◌+◌, ◌-◌, ◌*◌, ◌%◌, ◌<◌, ◌≤◌, ◌≡◌}
use Rattle.audit.specs.Names.{ℕ, true, false, List, length, Table, second_of}
use Rattle.std.specs.Prelude.{Option, Some, None}
use Rattle.audit.specs.Groups.{taken, taken_at, broken}
use Rattle.audit.specs.Pages.{table_pages}

-- each word of the run
abbrev pub InRun : ℕ → ℕ → (ℕ → Type 0) → Type 0
InRun j n P = (k : ℕ) → j ≤ k → k < j + n → P k

-- no word is broken
abbrev pub Unbroken : Table → List ℕ → ℕ → ℕ → ℕ → Type 0
Unbroken t l o j n = InRun j n (λ k. broken t l o k ≡ false)

-- the run has so many pages, in whichever megabyte it lies
abbrev pub PageCount : Table → List ℕ → ℕ → ℕ → ℕ → ℕ → Type 0
PageCount t l o j n c = (i : ℕ) → length (table_pages t l o i j n) ≡ c

-- what a look at the run finds: its pages, or the first word that is broken
abbrev pub Scanned : Table → List ℕ → ℕ → ℕ → ℕ → Result ℕ ℕ → Type 0
Scanned t l o j n (Ok c) = Unbroken t l o j n × PageCount t l o j n c
Scanned t l o j n (Err b) = (j ≤ b) × (b < j + n) × Unbroken t l o j (b - j) × (broken t l o b ≡ true)

-- where no page takes more than a word, the pages are counted
abbrev pub Tallied : Table → List ℕ → ℕ → ℕ → ℕ → Option ℕ → Type 0
Tallied t l o j n (Some c) = InRun j n (λ k. taken_at t l o k ≤ 1) × PageCount t l o j n c
Tallied t l o j n None = Unit

-- each page that takes more than m words is broken
abbrev pub BrokenOver : Table → List ℕ → ℕ → ℕ → ℕ → ℕ → Type 0
BrokenOver t l o j n m = InRun j n (λ k. m < taken_at t l o k → broken t l o k ≡ true)

-- the run is an aligned group of a table, and each page of more words is broken
pub record Grouped (t : Table) (l : List ℕ) (o j n : ℕ) : Type 0 where
  pub room : o + 4 * (j + n) ≤ length l
  pub some : 0 < n
  pub few : n ≤ 64
  pub aligned : j % n ≡ 0
  pub least : (w : ℕ) → 1 < taken t (second_of t w) → n ≤ taken t (second_of t w)
  pub more : BrokenOver t l o j n n
