use Rattle.records.proofs.Names.{held_meaning, ◌∙◌, ap}
use Rattle.records.specs.Meanings.{meaning}
use Rattle.records.proofs.lists.means.Goals as goal

pub returns : goal.returns
unfolding meaning
returns c = c.held_meaning.ensures ∙ ap (λ h. held_meaning h c.args.va c.args.a) c.holder.ensures
