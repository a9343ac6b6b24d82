-- What the law of this crate says (02, P1): replaying a recording block by block is running its calls one after another.
use Rattle.std.specs.Prelude.{Ok}
use Rattle.std.specs.Prelude.{◌≡◌}
use Rattle.recording.specs.Writing.{blocks_for, recording_of}
use Rattle.recording.specs.Statements.{Writable}
use Rattle.wire.specs.Words.{Bytes}
use Rattle.unit.specs.Machine
use Rattle.replay.specs.Names.{ℕ, List, true, Lent, Prices, calls_in, all_good, heard, blocks_in, call_bytes, Progress, Bench, session_words}
use Rattle.replay.specs.Replay.{bench_behind}
use Rattle.replay.specs.Blocks.{block_words, block_bench, machine_bench, machine_calls}

-- a recording: each of its records is a call; the words are a run's, and the bench is that behind the calls, which is the machine's
pub record AsRun (m : Lent) (p : Prices) (handed : ℕ) (b : Bench) (r : List ℕ) : Type 0 where
  pub good : all_good (call_bytes r) ≡ true
  pub words : block_words m p handed r b 0 (blocks_in r) ≡ session_words m p handed b (calls_in (call_bytes r))
  pub bench : block_bench m p r b 0 (blocks_in r) ≡ bench_behind m p b (calls_in (call_bytes r))
  pub machine : machine_bench (bench_behind m p b (calls_in (call_bytes r))) ≡ Machine.run m (machine_bench b) (machine_calls p (calls_in (call_bytes r)))

-- so it is with every recording that is heard whole, from every bench (02, P1)
abbrev pub ReplaysAsRun : Type 0
ReplaysAsRun = (r : List ℕ) (q : Progress) → heard r ≡ Ok q → (m : Lent) (p : Prices) (handed : ℕ) (b : Bench) → AsRun m p handed b r

-- and calls that are recorded are replayed as they would have been run (02, P1)
abbrev pub RecordedReplays : Type 0
RecordedReplays =
    (l : List ℕ) → Bytes l → Writable l → (m : Lent) (p : Prices) (handed : ℕ) (b : Bench)
    → block_words m p handed (recording_of l) b 0 (blocks_for l) ≡ session_words m p handed b (calls_in l)
