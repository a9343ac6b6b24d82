use Rattle.calls.proofs.Names.{call_of, call_from, ap₂, ◌∙◌}
use Rattle.calls.proofs.call_of.Goals as goal

pub returns : goal.returns
unfolding call_of
returns c = c.call_from.ensures ∙ ap₂ (call_from _ _ _ _) c.word_of.ensures c.word_of-2.ensures
