use Rattle.calls.specs.Names.{get_or}
use Rattle.calls.proofs.Names.{sym, ◌∙◌, ap₂, call_of, call_by}
use Rattle.calls.proofs.Good.{alike, from_known}
use Rattle.calls.proofs.known_of.Goals as goal

pub returns : goal.returns
unfolding call_of
returns c =
    let x = c.args.r.now in λ g. alike _ _ _
    (sym (ap₂ (call_by (get_or x 0 0) (get_or x 1 0)) c.word_of.ensures c.word_of-2.ensures ∙ from_known _ _ (get_or x 2 0) (get_or x 3 0) _ _ g)) c.known.ensures g
