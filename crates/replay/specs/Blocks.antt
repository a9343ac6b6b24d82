-- A recording replayed block by block (02, P1), and its calls as the machine's.
use Rattle.std.specs.Prelude.{Option, Some, None}
use Rattle.unit.specs.Machine
use Rattle.std.specs.Prelude.{◌+◌, ◌∷◌, ◌++◌}
use Rattle.replay.specs.Names.{ℕ, zero, suc, List, [], Lent, Prices, calls_in, Call, calls_at, Bench, state_words}
use Rattle.replay.specs.Replay.{bench_behind, answers_of}

-- k blocks from block i on: the answers of each from the bench that the one before it left, then the state (02, P1)
unfoldable pub block_words : Lent → Prices → ℕ → List ℕ → Bench → ℕ → ℕ → List ℕ
block_words m p handed r b i zero = state_words handed b
block_words m p handed r b i (suc k) = answers_of m p b (calls_in (calls_at r i)) ++ block_words m p handed r (bench_behind m p b (calls_in (calls_at r i))) (i + 1) k

-- the bench that the last of them leaves (02, P1)
unfoldable pub block_bench : Lent → Prices → List ℕ → Bench → ℕ → ℕ → Bench
block_bench m p r b i zero = b
block_bench m p r b i (suc k) = block_bench m p r (bench_behind m p b (calls_in (calls_at r i))) (i + 1) k

-- a bench as the machine's (01, demand 2)
abbrev pub machine_bench : Bench → Machine.Bench
machine_bench b = record { device = b.device; bill = b.bill; meters = b.meters }

-- the machine's calls, each with the same prices; a record that is none makes none (02, P1)
abbrev pub machine_calls : Prices → List (Option Call) → List Machine.Call
machine_calls p [] = []
machine_calls p (Some (Call.Write o v) ∷ cs) = Machine.write o v p ∷ machine_calls p cs
machine_calls p (Some (Call.Read o) ∷ cs) = Machine.read o ∷ machine_calls p cs
machine_calls p (Some (Call.Request va a) ∷ cs) = Machine.request va a p ∷ machine_calls p cs
machine_calls p (Some Call.Drop ∷ cs) = Machine.drop-fault ∷ machine_calls p cs
machine_calls p (Some (Call.Shift va) ∷ cs) = Machine.shift va ∷ machine_calls p cs
machine_calls p (None ∷ cs) = machine_calls p cs
