use Rattle.capi.proofs.Names.{rules, ◌∙◌, ap, verdict_word}
use Rattle.capi.proofs.nx_check.Goals as goal

pub returns : goal.returns
returns c = c.verdict_number.ensures ∙ ap verdict_word c.check.ensures
