use Rattle.listing.proofs.Names.{from_kind, sym, ◌∙◌, pick_yes, eq-eqb}
use Rattle.listing.proofs.Says.{kind_on}
use Rattle.listing.proofs.line.from_kind.Goals as goal

pub returns-then-run-line : goal.returns-then-run-line
unfolding from_kind
returns-then-run-line c = sym (pick_yes _ _ _ (eq-eqb _ _ (sym c.run.ensures ∙ c.if-run-line.true)))

pub returns-in-Some : goal.returns-in-Some
returns-in-Some c =
    c.from_virtual.ensures
    ∙ kind_on c.args.line.now _ _ c.word.ensures.first c.word.ensures.behind _ _ (λ e. c.if-run-line.false (c.run.ensures ∙ e)) c.kind_named.ensures c.in-Some.is

pub returns-in-None : goal.returns-in-None
returns-in-None c =
    kind_on c.args.line.now _ _ c.word.ensures.first c.word.ensures.behind _ _ (λ e. c.if-run-line.false (c.run.ensures ∙ e)) c.kind_named.ensures c.in-None.is
