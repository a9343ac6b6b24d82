-- How many words a session writes. Assumes nothing.
use Rattle.std.proofs.Common.{Option}
use Rattle.run.specs.Names.{◌≡◌, List, [], ◌∷◌, ℕ, ◌+◌, ◌*◌, length, Lent, Prices, Call, stepped, Bench}
use Rattle.run.proofs.Names.{arith, said_words, session_words}
use lib.ListN.{length-append}
use Rattle.run.proofs.Sizes.{said-length}
use Rattle.state.proofs.Lengths.{state_length}

pub session-length : (m : Lent) (p : Prices) (handed : ℕ) (b : Bench) (cs : List (Option Call)) → length (session_words m p handed b cs) ≡ 4 * length cs + 82
unfolding session_words
session-length m p handed b [] = state_length handed b
session-length m p handed b (c ∷ cs) =
    let w = length-append (said_words (stepped m p b c).said (stepped m p b c).from) (session_words m p handed (stepped m p b c).bench cs) in
    let u = said-length (stepped m p b c).said (stepped m p b c).from in
    let v = session-length m p handed (stepped m p b c).bench cs in
    omega arith
