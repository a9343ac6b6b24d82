-- Calls as records of 12 bytes (02, P1): kind, offset or access, two zero bytes, address word, value word.
use Rattle.std.specs.Prelude.{◌+◌, ◌*◌, ◌/◌, ◌%◌, ◌∷◌}
use Rattle.calls.specs.Names.{ℕ, zero, suc, Bool, true, List, [], eqb, leb, length, get_or, take, drop, pick, ◌and◌, word_of, Call, Option, None}
use Rattle.calls.specs.Kinds.{call_from}
pub use Rattle.calls.specs.Kinds.{is_good}

-- the bytes of a record
abbrev pub call_size : ℕ
call_size = 12

-- the call of a record's bytes
unfoldable pub call_of : List ℕ → Option Call
call_of r =
    call_from (get_or r 0 0) (get_or r 1 0) (get_or r 2 0) (get_or r 3 0) (word_of (take 4 (drop 4 r))) (word_of (take 4 (drop 8 r)))

-- the call of the record at an offset, none where its bytes are not all there
unfoldable pub call_at : List ℕ → ℕ → Option Call
call_at l at = pick (leb (at + call_size) (length l)) (call_of (take call_size (drop at l))) None

-- how many whole records there are
abbrev pub call_count : List ℕ → ℕ
call_count l = length l / call_size

-- the n calls from record i on, and all of them
unfoldable pub calls_from : List ℕ → ℕ → ℕ → List (Option Call)
calls_from l i zero = []
calls_from l i (suc n) = call_at l (call_size * i) ∷ calls_from l (i + 1) n

abbrev pub calls_in : List ℕ → List (Option Call)
calls_in l = calls_from l 0 (call_count l)

abbrev pub good_calls : List (Option Call) → Bool
good_calls [] = true
good_calls (c ∷ cs) = is_good c and good_calls cs

-- only whole records, and each is as said
unfoldable pub all_good : List ℕ → Bool
all_good l = eqb (length l % call_size) 0 and good_calls (calls_in l)
