-- What listing an image answers, and what it leaves in the lent list (02, P4): the check's refusals, then 12 with the number of pages.
use Rattle.audit.specs.declared.ListError.{ListError}
use Rattle.std.specs.Prelude.{Result, Ok, Err}
use Rattle.audit.specs.declared.ImageError.{ImageError}
use Rattle.std.specs.Prelude.{◌*◌, ◌++◌}
use Rattle.audit.specs.Names.{ℕ, List, ltb, length, drop, pick, record_size, records_of}
use Rattle.audit.specs.Pages.{pages_in}
use Rattle.audit.specs.Check.{check_of, verdict_number, verdict_value}

-- after the check, in a room of so many bytes: the length of the records
abbrev pub inventory_of : Result ℕ ImageError → ℕ → Result ℕ ListError
inventory_of (Ok n) room = pick (ltb room (record_size * n)) (Err (ListError.TooShort n)) (Ok (record_size * n))
inventory_of (Err e) room = Err (ListError.Image e)

-- the lent list after an answer: the records and every later byte as it was, or all as it was
abbrev pub inventory_left : Result ℕ ListError → List ℕ → List ℕ → List ℕ
inventory_left (Ok n) rs before = rs ++ drop n before
inventory_left (Err e) rs before = before

-- an answer and the lent list beside it
pub record Inventoried : Type 0 where
  pub answer : Result ℕ ListError
  pub records : List ℕ

abbrev pub inventoried : Result ℕ ListError → List ℕ → Inventoried
inventoried a l = record { answer = a; records = l }

unfoldable pub list_of : ℕ → List ℕ → ℕ → List ℕ → Inventoried
list_of n l base before =
    inventoried (inventory_of (check_of n l base) (length before))
    (inventory_left (inventory_of (check_of n l base) (length before)) (records_of (pages_in n l base)) before)

-- the paper's number of an answer, 0 where nothing is refused, and the value beside it
abbrev pub inventory_number : Result ℕ ListError → ℕ
inventory_number (Ok n) = 0
inventory_number (Err (ListError.Image e)) = verdict_number (Err e)
inventory_number (Err (ListError.TooShort n)) = 12

abbrev pub inventory_value : Result ℕ ListError → ℕ
inventory_value (Ok n) = n
inventory_value (Err (ListError.Image e)) = verdict_value (Err e)
inventory_value (Err (ListError.TooShort n)) = n
