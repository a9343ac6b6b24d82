use Rattle.capi.specs.Names.{Option, Parting}
use Rattle.capi.proofs.Names.{◌∙◌, ap, sym, comparison_said}
use Rattle.capi.proofs.numbers.comparison_words.Goals as goal

pub returns-in-None : goal.returns-in-None
returns-in-None c = c.parting_words.ensures ∙ sym (ap (λ (x : Option Parting). comparison_said x c.args.len) c.in-None.is)

pub returns-in-Some : goal.returns-in-Some
returns-in-Some c = c.parting_words-in-Some.ensures ∙ sym (ap (λ (x : Option Parting). comparison_said x c.args.len) c.in-Some.is)
