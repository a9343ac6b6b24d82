-- Which runs are answered.
use Rattle.std.specs.Prelude.{◌+◌, ◌*◌}
use Rattle.run.specs.Names.{ℕ, Bool, List, leb, ◌and◌, call_count, all_good, state_size}

-- the bytes of an answer, and of a state
abbrev pub answer_size : ℕ
answer_size = 16

-- the bytes that a run writes
abbrev pub run_size : List ℕ → ℕ
run_size calls = answer_size * call_count calls + state_size

-- a run is answered: prices of a kind, calls as said, and room
unfoldable pub may_run : List ℕ → ℕ → ℕ → ℕ → Bool
may_run calls onkind extkind room = leb onkind 1 and leb extkind 1 and all_good calls and leb (run_size calls) room
