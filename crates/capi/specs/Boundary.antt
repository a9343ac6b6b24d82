-- What each function of the boundary answers and leaves in the lent bytes.
use Rattle.capi.specs.Names.{run_with, ℕ, List, pick, Lent, place_in, fetched_in, word_of, Prices, build_of, fresh_bench, Float, is_state}
use Rattle.capi.specs.Names.{bench_in, lock_in, Ran, ran, megabytes, list_of, leb, length, words_put, comparison_of, recording_written, recording_read}
use Rattle.capi.specs.Numbers.{place_number, built_word, inventory_word, comparison_said, written_word}

-- a run from a fresh bench
abbrev pub run_of : Lent → Prices → ℕ → ℕ → List ℕ → List ℕ → Ran
run_of m p onkind extkind calls out = run_with m p onkind extkind 0 fresh_bench calls out

-- a run from a handed-in state; 0 and nothing written where the bytes are none
unfoldable pub from_of : Lent → Prices → ℕ → ℕ → List ℕ → Float → Float → List ℕ → List ℕ → Ran
from_of m p onkind extkind state total misses calls out =
    pick (is_state state) (run_with m p onkind extkind (lock_in state) (bench_in state total misses) calls out) (ran 0 out)

-- where the four bytes at an address lie, and the word they are
unfoldable pub fetch_of : Lent → ℕ → ℕ
fetch_of m a = place_number (place_in m a) (word_of (fetched_in m a))

-- a build's answer in one number, and the memory after it
unfoldable pub build_ran : List ℕ → ℕ → List ℕ → Ran
build_ran records base memory = ran (built_word (build_of records base memory).answer) (build_of records base memory).memory

-- an image's pages: the answer in one number, and the lent list after it
unfoldable pub list_ran : List ℕ → ℕ → List ℕ → Ran
list_ran memory base out = ran (inventory_word (list_of megabytes memory base out).answer) (list_of megabytes memory base out).records

-- two images compared: the answer in 24 bytes; 0 and nothing written where there is no room for them
unfoldable pub part_ran : List ℕ → List ℕ → List ℕ → Ran
part_ran new signed out = pick (leb 24 (length out)) (ran 24 (words_put out 0 (comparison_said (comparison_of new signed) (length new)))) (ran 0 out)

-- calls as a recording, and a recording's calls: the answer in one number, and the lent memory after it
unfoldable pub record_ran : List ℕ → List ℕ → Ran
record_ran calls out = ran (written_word (recording_written calls out).answer) (recording_written calls out).memory

unfoldable pub recorded_ran : List ℕ → List ℕ → Ran
recorded_ran recording out = ran (written_word (recording_read recording out).answer) (recording_read recording out).memory
