use Rattle.listing.proofs.Names.{kind_column, pasted, sym, ◌∙◌, ap}
use Rattle.listing.proofs.printer.put_kind.Goals as goal

pub returns-in-Section : goal.returns-in-Section
returns-in-Section c =
    c.put.ensures ∙ ap (λ k. pasted c.args.out.now c.args.at (kind_column k)) (sym c.in-Section.is)

pub returns-in-Large : goal.returns-in-Large
returns-in-Large c =
    c.put-in-Large.ensures ∙ ap (λ k. pasted c.args.out.now c.args.at (kind_column k)) (sym c.in-Large.is)

pub returns-in-Small : goal.returns-in-Small
returns-in-Small c =
    c.put-in-Small.ensures ∙ ap (λ k. pasted c.args.out.now c.args.at (kind_column k)) (sym c.in-Small.is)

pub returns-in-Tiny : goal.returns-in-Tiny
returns-in-Tiny c =
    c.put-in-Tiny.ensures ∙ ap (λ k. pasted c.args.out.now c.args.at (kind_column k)) (sym c.in-Tiny.is)
