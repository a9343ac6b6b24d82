use Rattle.listing.specs.Names.{not}
use Rattle.listing.proofs.Names.{belongs, sym, ◌∙◌, ap}
use Rattle.listing.proofs.tokens.belongs.Goals as goal

pub returns-in-Inline : goal.returns-in-Inline
unfolding belongs
returns-in-Inline c = sym (ap (λ k. belongs k c.args.x) c.in-Inline.is)

pub returns-in-Plain : goal.returns-in-Plain
unfolding belongs
returns-in-Plain c = sym (ap (λ k. belongs k c.args.x) c.in-Plain.is)

pub returns-in-Blank : goal.returns-in-Blank
unfolding belongs
returns-in-Blank c = c.blank.ensures ∙ sym (ap (λ k. belongs k c.args.x) c.in-Blank.is)

pub returns-in-Solid : goal.returns-in-Solid
unfolding belongs
returns-in-Solid c = ap not c.blank-in-Solid.ensures ∙ sym (ap (λ k. belongs k c.args.x) c.in-Solid.is)
