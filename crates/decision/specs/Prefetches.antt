-- What a prefetch and a shift report come to (01, "Registers", "Meters and the walk bill").
use Rattle.decision.specs.declared.ShiftError.{ShiftError}
use Rattle.std.specs.Prelude.{Result, Ok, Err, Option, Some, None, ◌*◌, ◌%◌, ◌^◌, ◌∷◌}
use Rattle.walk.specs.declared.Unfound.{Unfound}
use Rattle.walk.specs.declared.Page.{Page}
use Rattle.decision.specs.Names.{ℕ, List, [], virtual, physical_of, distance_of, looked_up, Seen, Fault, ℤ, VirtualAddress}
use Rattle.decision.specs.Names.{Reads, Walked, Answer, Decision}
use Rattle.decision.specs.Decisions.{plainly, missing_word, no_page, with_page}

-- the address of a prefetch: bits 13:0 are address bits 23:10
abbrev pub page_at : ℕ → VirtualAddress
page_at v = virtual (v % 2 ^ 14 * 2 ^ 10)

-- a walk without access check; no page is a prefetch fault
unfoldable pub prefetch_found : VirtualAddress → Reads → Result Page Unfound → Decision
prefetch_found va r (Err Unfound.Missing) = missing_word
prefetch_found va r (Err Unfound.NoPage) = no_page r Fault.Prefetch Seen.Nothing
prefetch_found va r (Ok p) = with_page p va r Answer.Done Seen.Nothing

abbrev pub prefetch_matched : Walked → VirtualAddress → Option ℕ → Decision
prefetch_matched w va (Some i) = plainly Answer.Done Seen.Nothing
prefetch_matched w va None = prefetch_found va w.reads w.found

-- what a prefetch comes to, where w is what the plain walk of its address gives: no effect on a match
unfoldable pub prefetch_decided : Walked → List ℕ → VirtualAddress → Decision
prefetch_decided w cam va = prefetch_matched w va (looked_up cam va)

-- the prefetch register keeps each write that is not refused
abbrev pub prefetch_kept : ℕ → ℕ → Answer → ℕ
prefetch_kept v old (Answer.Refused k) = old
prefetch_kept v old (Answer.Address x) = v
prefetch_kept v old (Answer.Fault k) = v
prefetch_kept v old (Answer.Value x) = v
prefetch_kept v old Answer.Done = v

-- what a walk that found no page says of the shift
abbrev pub unshifted : Unfound → ShiftError
unshifted Unfound.Missing = ShiftError.Refused 3
unshifted Unfound.NoPage = ShiftError.Fault

-- physical minus virtual, by what the plain walk finds
abbrev pub shift_by : VirtualAddress → Result Page Unfound → Result ℤ ShiftError
shift_by va (Err u) = Err (unshifted u)
shift_by va (Ok p) = Ok (distance_of (physical_of p va) va)

-- the paper's number of a shift report, and its value
abbrev pub shift_number : Result ℤ ShiftError → ℕ
shift_number (Ok z) = 0
shift_number (Err ShiftError.Fault) = 21
shift_number (Err (ShiftError.Refused k)) = k

abbrev pub shift_values : Result ℤ ShiftError → List ℤ
shift_values (Ok z) = z ∷ []
shift_values (Err ShiftError.Fault) = []
shift_values (Err (ShiftError.Refused k)) = []
