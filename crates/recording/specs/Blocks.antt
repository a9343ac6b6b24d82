-- A block of a recording (02, P1): 512 bytes, which are the number of its calls and its own number (2 bytes each), 42 records of
-- 12 bytes, and the check of all that (4 bytes).
use Rattle.std.specs.Prelude.{◌+◌, ◌-◌, ◌*◌, ◌++◌}
use Rattle.recording.specs.Names.{ℕ, zero, suc, List, [], length, take, drop, replicate, call_size, call_count, word_bytes, halves, word_at, low_at, high_at, crc32}

abbrev pub block_size : ℕ
block_size = 512

-- the calls of a full block, and their bytes
abbrev pub full_block : ℕ
full_block = 42

abbrev pub call_room : ℕ
call_room = call_size * full_block

-- where the calls begin, and the bytes before the check
abbrev pub head_size : ℕ
head_size = 4

abbrev pub checked_size : ℕ
checked_size = head_size + call_room

-- the most blocks, numbered from 0, and their calls
abbrev pub most_blocks : ℕ
most_blocks = 65536

abbrev pub most_calls : ℕ
most_calls = full_block * most_blocks

-- the bytes of block n with these calls, the unused records zero
abbrev pub block_front : ℕ → List ℕ → List ℕ
block_front n calls = (word_bytes (halves (call_count calls) n) ++ calls) ++ replicate (call_room - length calls) 0

unfoldable pub block_of : ℕ → List ℕ → List ℕ
block_of n calls = block_front n calls ++ word_bytes (crc32 (block_front n calls))

-- what a block says: the number of its calls, its own number, its check
abbrev pub count_in : List ℕ → ℕ
count_in b = low_at b 0

abbrev pub number_in : List ℕ → ℕ
number_in b = high_at b 0

abbrev pub check_in : List ℕ → ℕ
check_in b = word_at b checked_size

-- the bytes of its calls, and of its unused records
unfoldable pub calls_of : List ℕ → List ℕ
calls_of b = take (call_size * count_in b) (drop head_size b)

unfoldable pub unused_of : List ℕ → List ℕ
unused_of b = take (call_room - call_size * count_in b) (drop (head_size + call_size * count_in b) b)

-- k pieces from piece i on, one behind the other
unfoldable pub pieces : (ℕ → List ℕ) → ℕ → ℕ → List ℕ
pieces f i zero = []
pieces f i (suc k) = f i ++ pieces f (i + 1) k
