-- Calls as a recording (02, P1): refusal 16 with the index of the first call that is not as said or past the most, then 12 with the bytes needed.
use Rattle.std.specs.Prelude.{Result, Ok, Err}
use Rattle.recording.specs.declared.RecordingError.{RecordingError}
use Rattle.std.specs.Prelude.{◌+◌, ◌*◌, ◌/◌, ◌%◌, ◌<◌, ◌≤◌, ◌≡◌}
use Rattle.recording.specs.Names.{ℕ, zero, suc, List, eqb, leb, ltb, length, take, drop, min, pick, ◌and◌}
use Rattle.recording.specs.Names.{call_size, call_at, is_good, pasted, IsTable}
use Rattle.recording.specs.Blocks.{block_size, call_room, most_blocks, most_calls, block_of, pieces}

-- how many records there are, a short one counted, and the first of n from record i on that is not as said, the one behind them where all are
abbrev pub records_in : List ℕ → ℕ
records_in l = (length l + 11) / call_size

unfoldable pub first_bad : List ℕ → ℕ → ℕ → ℕ
first_bad l i zero = i
first_bad l i (suc n) = pick (is_good (call_at l (call_size * i))) (first_bad l (i + 1) n) i

-- the first call that is refused, the number of calls where none is
abbrev pub bad_call : List ℕ → ℕ
bad_call l = first_bad l 0 (min (records_in l) most_calls)

-- the calls of block i, the block, and how many blocks there are
abbrev pub calls_for : List ℕ → ℕ → List ℕ
calls_for l i = take call_room (drop (call_room * i) l)

abbrev pub block_for : List ℕ → ℕ → List ℕ
block_for l i = block_of i (calls_for l i)

abbrev pub blocks_for : List ℕ → ℕ
blocks_for l = (length l + 503) / call_room

-- the recording
abbrev pub recording_of : List ℕ → List ℕ
recording_of l = pieces (block_for l) 0 (blocks_for l)

-- an answer and the lent memory beside it
pub record Wrote : Type 0 where
  pub answer : Result ℕ RecordingError
  pub memory : List ℕ

abbrev pub wrote : Result ℕ RecordingError → List ℕ → Wrote
wrote a l = record { answer = a; memory = l }

-- bytes put at the front of the lent memory, or 12 with as many as are needed
unfoldable pub filled_with : List ℕ → List ℕ → Wrote
filled_with s before = pick (ltb (length before) (length s)) (wrote (Err (RecordingError.TooShort (length s))) before) (wrote (Ok (length s)) (pasted before 0 s))

-- one block by itself, where its number, its calls and the lent memory are in bounds
unfoldable pub block_written : ℕ → List ℕ → List ℕ → List ℕ
block_written n calls before =
    pick (ltb n most_blocks and leb (length calls) call_room and eqb (length calls % call_size) 0 and leb block_size (length before)) (pasted before 0 (block_of n calls)) before

-- the writer
unfoldable pub recording_written : List ℕ → List ℕ → Wrote
recording_written l before = pick (ltb (bad_call l) (records_in l)) (wrote (Err (RecordingError.Bad (bad_call l))) before) (filled_with (recording_of l) before)

-- the paper's number of an answer, 0 where nothing is refused, and the value beside it
abbrev pub written_number : Result ℕ RecordingError → ℕ
written_number (Ok n) = 0
written_number (Err (RecordingError.Bad i)) = 16
written_number (Err (RecordingError.TooShort n)) = 12

abbrev pub written_value : Result ℕ RecordingError → ℕ
written_value (Ok n) = n
written_value (Err (RecordingError.Bad i)) = i
written_value (Err (RecordingError.TooShort n)) = n

-- what putting a block asks, and putting all of them
pub record BlockFits (t : List ℕ) (number calls room at : ℕ) : Type 0 where
  pub laid : IsTable t
  pub numbered : number < most_blocks
  pub called : calls ≤ call_room
  pub whole : calls % call_size ≡ 0
  pub held : at + block_size ≤ room

pub record BlocksFit (l : List ℕ) (n room : ℕ) : Type 0 where
  pub all : n ≡ blocks_for l
  pub numbered : n ≤ most_blocks
  pub whole : length l % call_size ≡ 0
  pub held : block_size * n ≤ room
