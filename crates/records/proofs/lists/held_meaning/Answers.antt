use Rattle.std.proofs.Common.{Ok}
use Rattle.records.proofs.Names.{held_meaning, sym, ◌∙◌, ap, pick_yes, pick_no}
use Rattle.records.proofs.lists.held_meaning.Goals as goal

pub returns-in-Some : goal.returns-in-Some
returns-in-Some c =
    sym (ap (λ h. held_meaning h c.args.va c.args.a) c.in-Some.is ∙ pick_yes _ _ _ (sym c.permitted.ensures ∙ c.if-permitted.true) ∙ ap Ok (sym c.byte_of.ensures))

pub returns-in-Some-2 : goal.returns-in-Some-2
returns-in-Some-2 c =
    sym (ap (λ h. held_meaning h c.args.va c.args.a) c.in-Some.is ∙ pick_no _ _ _ (sym c.permitted.ensures ∙ c.if-permitted.false))
