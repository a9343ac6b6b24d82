-- Calls replayed (02, P1): made on a bench one after another, with the same memories and prices, each answer as 16 bytes.
use Rattle.std.specs.Prelude.{Option}
use Rattle.std.specs.Prelude.{◌*◌, ◌∷◌, ◌++◌}
use Rattle.replay.specs.Names.{ℕ, List, [], leb, length, pick, Lent, Prices, call_count, calls_in, Call, said_words, answer_size, stepped, Bench, placed}

-- the bench behind the calls (02, P1)
unfoldable pub bench_behind : Lent → Prices → Bench → List (Option Call) → Bench
bench_behind m p b [] = b
bench_behind m p b (c ∷ cs) = bench_behind m p (stepped m p b c).bench cs

-- their answers, one behind the other (02, P1)
unfoldable pub answers_of : Lent → Prices → Bench → List (Option Call) → List ℕ
answers_of m p b [] = []
answers_of m p b (c ∷ cs) = said_words (stepped m p b c).said (stepped m p b c).from ++ answers_of m p (stepped m p b c).bench cs

-- a bench and the bytes beside it
pub record Replayed : Type 0 where
  pub bench : Bench
  pub bytes : List ℕ

abbrev pub replayed : Bench → List ℕ → Replayed
replayed b l = record { bench = b; bytes = l }

-- the calls of whole records where there is room for an answer to each, none where there is not (02, P1)
unfoldable pub replay_of : Lent → Prices → Bench → List ℕ → List ℕ → Replayed
replay_of m p b calls out =
    pick (leb (answer_size * call_count calls) (length out)) (replayed (bench_behind m p b (calls_in calls)) (placed out 0 (answers_of m p b (calls_in calls)))) (replayed b out)
