-- The call of a record's fields, by its kind (02, P1).
use Rattle.calls.specs.Names.{ℕ, Bool, true, false, eqb, pick, ◌and◌, Call, Option, Some, None}
use Rattle.calls.specs.Forms.{write_by, read_by, request_by, drop_by, report_by}

-- the kinds by their byte
unfoldable pub call_by : ℕ → ℕ → ℕ → ℕ → Option Call
call_by k x a v =
    pick (eqb k 1) (write_by x a v)
    (pick (eqb k 2) (read_by x a v)
    (pick (eqb k 3) (request_by x a v)
    (pick (eqb k 4) (drop_by x a v)
    (pick (eqb k 5) (report_by x a v) None))))

-- the same where the two bytes between are zero
unfoldable pub call_from : ℕ → ℕ → ℕ → ℕ → ℕ → ℕ → Option Call
call_from k x third fourth a v = pick (eqb third 0 and eqb fourth 0) (call_by k x a v) None

-- whether a record is a call
abbrev pub is_good : Option Call → Bool
is_good (Some c) = true
is_good None = false
