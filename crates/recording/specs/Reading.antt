-- A recording read (02, P1): block by block with what is carried from one to the next; refusal 16 with the index of the first bad block, then 12 with the bytes needed.
use Rattle.recording.specs.declared.RecordingError.{RecordingError}
use Rattle.std.specs.Prelude.{Result, Ok, Err}
use Rattle.std.specs.Prelude.{◌+◌, ◌*◌, ◌/◌, ◌∷◌, ◌<◌, ◌≤◌, ◌≡◌}
use Rattle.recording.specs.Names.{ℕ, zero, suc, Bool, not, List, [], eqb, leb, ltb, length, take, drop, pick, ◌and◌, all_good, crc32, true, IsTable}
use Rattle.recording.specs.Names.{Flaw, Progress}
use Rattle.recording.specs.Blocks.{block_size, full_block, checked_size, most_blocks, count_in, number_in, check_in, calls_of, unused_of, pieces}
use Rattle.recording.specs.Writing.{Wrote, wrote, filled_with}

-- only zeros
unfoldable pub all_zero : List ℕ → Bool
all_zero [] = true
all_zero (x ∷ xs) = eqb x 0 and all_zero xs

-- what is carried: how many blocks and calls there were; at the start none
abbrev pub progress : ℕ → ℕ → Progress
progress blocks calls = record { blocks = blocks; calls = calls }

-- a block of 512 bytes by itself, and behind what is carried: the first thing that is wrong with it, or what is carried on
unfoldable pub block_judged : Progress → List ℕ → Result Progress Flaw
block_judged p b =
    pick (not (eqb (check_in b) (crc32 (take checked_size b)))) (Err Flaw.Check)
    (pick (not (eqb (number_in b) p.blocks)) (Err Flaw.Number)
    (pick (eqb (count_in b) 0) (Err Flaw.Count)
    (pick (ltb full_block (count_in b)) (Err Flaw.Count)
    (pick (not (all_good (calls_of b))) (Err Flaw.Record)
    (pick (not (all_zero (unused_of b))) (Err Flaw.Unused)
    (Ok (progress (p.blocks + 1) (p.calls + count_in b))))))))

unfoldable pub block_taken : Progress → List ℕ → Result Progress Flaw
block_taken p b =
    pick (leb most_blocks p.blocks) (Err Flaw.TooMany)
    (pick (not (eqb (length b) block_size)) (Err Flaw.Short)
    (pick (not (eqb p.calls (full_block * p.blocks))) (Err Flaw.BehindLast)
    (block_judged p b)))

-- block i of a recording, short at its end, and how many there are, a short one counted
abbrev pub block_at : List ℕ → ℕ → List ℕ
block_at r i = take block_size (drop (block_size * i) r)

abbrev pub blocks_in : List ℕ → ℕ
blocks_in r = (length r + 511) / block_size

-- after a block: on with what is carried, or its index
abbrev pub onward : Result Progress Flaw → (Progress → Result Progress ℕ) → ℕ → Result Progress ℕ
onward (Ok q) f i = f q
onward (Err w) f i = Err i

-- k blocks behind what is carried, and all
unfoldable pub heard_from : List ℕ → Progress → ℕ → Result Progress ℕ
heard_from r p zero = Ok p
heard_from r p (suc k) = onward (block_taken p (block_at r p.blocks)) (λ q. heard_from r q k) p.blocks

abbrev pub heard : List ℕ → Result Progress ℕ
heard r = heard_from r (progress 0 0) (blocks_in r)

-- the calls of block i, and all
abbrev pub calls_at : List ℕ → ℕ → List ℕ
calls_at r i = calls_of (block_at r i)

abbrev pub call_bytes : List ℕ → List ℕ
call_bytes r = pieces (calls_at r) 0 (blocks_in r)

-- the reader
abbrev pub heard_as : Result Progress ℕ → List ℕ → List ℕ → Wrote
heard_as (Ok p) calls before = filled_with calls before
heard_as (Err i) calls before = wrote (Err (RecordingError.Bad i)) before

unfoldable pub recording_read : List ℕ → List ℕ → Wrote
recording_read r before = heard_as (heard r) (call_bytes r) before

-- what testing a block asks: the table is laid, and all is in bounds
pub record Judgeable (t : List ℕ) (p : Progress) (b : List ℕ) : Type 0 where
  pub laid : IsTable t
  pub long : length b ≡ block_size
  pub few : p.blocks < most_blocks
  pub full : p.calls ≡ full_block * p.blocks

-- what putting the calls of n blocks asks
pub record Fillable (r : List ℕ) (n room : ℕ) : Type 0 where
  pub all : n ≡ blocks_in r
  pub held : length (pieces (calls_at r) 0 n) ≤ room
