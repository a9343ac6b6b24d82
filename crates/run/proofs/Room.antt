-- What a run that is answered has: room, and calls alone. Assumes nothing.
use Rattle.run.specs.Names.{◌≡◌, true, List, ℕ, ◌+◌, ◌*◌, ◌≤◌, leb, all_good, state_size}
use Rattle.run.proofs.Names.{sym, ◌∙◌, ◌-◌, ◌/◌, arith, le-leb, lt-leb, and_right, run_size, may_run}
use native.Mathlib.Decide.{dec_le}
use borrow.Author.Tests.{leb-true}
use Rattle.page.proofs.Picks.{and_left}
use Rattle.run.specs.MayRun.{answer_size}

-- as many answers as fit beside a state
pub room_for : (n room : ℕ) → state_size ≤ room → leb n ((room - state_size) / answer_size) ≡ leb (answer_size * n + state_size) room
room_for n room h = elim (dec_le n ((room - state_size) / answer_size)) [
  | yes g ↦ le-leb n ((room - state_size) / answer_size) g ∙ sym (le-leb (answer_size * n + state_size) room (omega arith))
  | no g ↦ lt-leb n ((room - state_size) / answer_size) (omega arith) ∙ sym (lt-leb (answer_size * n + state_size) room (omega arith))
]

pub run_fits : (calls : List ℕ) (onkind extkind room : ℕ) → may_run calls onkind extkind room ≡ true → run_size calls ≤ room
unfolding may_run
run_fits calls onkind extkind room h = leb-true _ _ (and_right _ _ (and_right _ _ (and_right _ _ h)))

-- and its calls are calls
pub run-good : (calls : List ℕ) (onkind extkind room : ℕ) → may_run calls onkind extkind room ≡ true → all_good calls ≡ true
unfolding may_run
run-good calls onkind extkind room h = and_left _ _ (and_right _ _ (and_right _ _ h))
