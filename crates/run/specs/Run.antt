-- What a run writes and answers.
use Rattle.std.specs.Prelude.{Option}
use Rattle.std.specs.Prelude.{◌∷◌, ◌++◌}
use Rattle.run.specs.Names.{ℕ, List, [], length, pick, Lent, Prices, calls_in, Call, stepped, Bench, placed, state_words}
use Rattle.run.specs.Answers.{said_words}
use Rattle.run.specs.MayRun.{run_size, may_run}

-- what is written: an answer for each call, then the state
unfoldable pub session_words : Lent → Prices → ℕ → Bench → List (Option Call) → List ℕ
session_words m p handed b [] = state_words handed b
session_words m p handed b (c ∷ cs) = said_words (stepped m p b c).said (stepped m p b c).from ++ session_words m p handed (stepped m p b c).bench cs

-- a number and the bytes beside it
pub record Ran : Type 0 where
  pub answer : ℕ
  pub bytes : List ℕ

abbrev pub ran : ℕ → List ℕ → Ran
ran n l = record { answer = n; bytes = l }

-- a run from a bench
abbrev pub ran_from : Lent → Prices → ℕ → Bench → List ℕ → List ℕ → Ran
ran_from m p handed b calls out = ran (run_size calls) (placed out 0 (session_words m p handed b (calls_in calls)))

-- the same where it is answered, 0 and nothing written where it is not
unfoldable pub run_with : Lent → Prices → ℕ → ℕ → ℕ → Bench → List ℕ → List ℕ → Ran
run_with m p onkind extkind handed b calls out =
    pick (may_run calls onkind extkind (length out)) (ran_from m p handed b calls out) (ran 0 out)
