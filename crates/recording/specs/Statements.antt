-- What the laws of this crate say (02, P1): what is written is read back, there is one recording for each list of calls, a damaged block is refused,
-- and what is carried from block to block is all that the blocks before it say.
use Rattle.recording.specs.declared.RecordingError.{RecordingError}
use Rattle.std.specs.Prelude.{Result}
use Rattle.std.specs.Prelude.{Ok, Err}
use Rattle.std.specs.Prelude.{◌⊎◌, ◌*◌, ◌%◌, ◌<◌, ◌≤◌, ◌≡◌, ◌∷◌, ◌++◌}
use Rattle.recording.specs.Names.{ℕ, false, true, List, [], length, take, get_or, set, replicate, Bytes}
use Rattle.recording.specs.Names.{call_at, call_count, call_size, is_good, Flaw, Progress}
use Rattle.recording.specs.Blocks.{block_size, most_calls}
use Rattle.recording.specs.Writing.{records_in, bad_call, blocks_for, recording_of, filled_with, recording_written, written_number}
use Rattle.recording.specs.Reading.{progress, block_taken, block_at, blocks_in, onward, heard, call_bytes, recording_read}

-- calls that the writer does not refuse 16
abbrev pub Writable : List ℕ → Type 0
Writable l = bad_call l ≡ records_in l

-- whatever the writer accepts, read back, is that list: the reader hears all of it, and answers as if the calls themselves were put
pub record RecordedBack (l : List ℕ) : Type 0 where
  pub whole : heard (recording_of l) ≡ Ok (progress (blocks_for l) (call_count l))
  pub calls : call_bytes (recording_of l) ≡ l
  pub answered : (before : List ℕ) → recording_read (recording_of l) before ≡ filled_with l before

abbrev pub RoundTrip : Type 0
RoundTrip = (l : List ℕ) → Bytes l → Writable l → RecordedBack l

-- it accepts one drop, whose recording is one block with this check
abbrev pub one_drop : List ℕ
one_drop = 4 ∷ replicate 11 0

pub record DropRecorded : Type 0 where
  pub accepted : Writable one_drop
  pub block : recording_of one_drop ≡ (1 ∷ 0 ∷ 0 ∷ 0 ∷ one_drop) ++ (replicate 492 0 ++ (0x81 ∷ 0xFD ∷ 0xF4 ∷ 0xF8 ∷ []))

-- what the reader accepts is what the writer would write
abbrev pub OneRecording : Type 0
OneRecording = (r : List ℕ) (p : Progress) → Bytes r → heard r ≡ Ok p → Writable (call_bytes r) × (recording_of (call_bytes r) ≡ r)

-- call i is the first that is not as said, short, or past the most
pub record RefusedCall (l : List ℕ) (i : ℕ) : Type 0 where
  pub there : i < records_in l
  pub within : i ≤ most_calls
  pub before : (j : ℕ) → j < i → is_good (call_at l (call_size * j)) ≡ true
  pub wrong : (i ≡ most_calls) ⊎ (is_good (call_at l (call_size * i)) ≡ false)

-- block i is the first that is bad: those before it are accepted, and behind what they leave it is refused
pub record RefusedBlock (r : List ℕ) (i : ℕ) : Type 0 where
  pub there : i < blocks_in r
  pub carried : Progress
  pub before : heard (take (block_size * i) r) ≡ Ok carried
  pub flaw : Flaw
  pub wrong : block_taken carried (block_at r i) ≡ Err flaw

-- 16 names that call or that block, and no refusal changes a byte
pub record RefusesFirst : Type 0 where
  pub write : (l before : List ℕ) (i : ℕ) → ((recording_written l before).answer ≡ Err (RecordingError.Bad i) → RefusedCall l i) × (RefusedCall l i → (recording_written l before).answer ≡ Err (RecordingError.Bad i))
  pub read : (r before : List ℕ) (i : ℕ) → (recording_read r before).answer ≡ Err (RecordingError.Bad i) → RefusedBlock r i
  pub write_keeps : (l before : List ℕ) → (written_number (recording_written l before).answer ≡ 0 → ⊥) → (recording_written l before).memory ≡ before
  pub read_keeps : (r before : List ℕ) → (written_number (recording_read r before).answer ≡ 0 → ⊥) → (recording_read r before).memory ≡ before

-- of a block that is taken, every other value of any one byte is refused: so is every single damaged bit
abbrev pub DamageRefused : Type 0
DamageRefused =
    (p : Progress) (b : List ℕ) (j x : ℕ) → Bytes b → j < block_size → x < 256 → (x ≡ get_or b j 0 → ⊥)
    → (q : Progress) → block_taken p b ≡ Ok q → (s : Progress) → block_taken p (set b j x) ≡ Ok s → ⊥

-- one more piece behind whole blocks: what is carried, and the piece, are all that is looked at
abbrev pub heard_on : Result Progress ℕ → List ℕ → Result Progress ℕ
heard_on (Ok p) s = onward (block_taken p s) Ok p.blocks
heard_on (Err i) s = Err i

pub record BlockByBlock : Type 0 where
  pub none : heard [] ≡ Ok (progress 0 0)
  pub one_more : (r s : List ℕ) → length r % block_size ≡ 0 → 0 < length s → length s ≤ block_size → heard (r ++ s) ≡ heard_on (heard r) s
