use Rattle.listing.specs.Names.{ℕ, List, eqb, length}
use Rattle.listing.proofs.Names.{from_access, after_access, sym, ap, ◌∙◌, pick_yes}
use Rattle.listing.proofs.Says.{access_on}
use Rattle.listing.proofs.line.from_access.Goals as goal

pub returns-then-is_empty : goal.returns-then-is_empty
unfolding from_access
returns-then-is_empty c = sym (pick_yes _ _ _ (ap (λ (s : List ℕ). eqb (length s) 0) (sym c.word.ensures.first) ∙ sym c.is_empty.ensures ∙ c.if-is_empty.true))

pub returns-in_default : goal.returns-in_default
returns-in_default c =
    let x = c.args in
    ap (λ a. after_access x.k x.v x.p a c.word.result.1.now) (sym c.in_default.is)
    ∙ access_on x.line.now _ _ c.word.ensures.first c.word.ensures.behind x.k x.v x.p _ (sym c.is_empty.ensures ∙ c.if-is_empty.false) c.access_named.ensures

pub returns : goal.returns
returns c =
    let x = c.args in
    c.ended.ensures
    ∙ ap (λ a. after_access x.k x.v x.p a c.word.result.1.now) (sym c.in-Some.is)
    ∙ access_on x.line.now _ _ c.word.ensures.first c.word.ensures.behind x.k x.v x.p _ (sym c.is_empty.ensures ∙ c.if-is_empty.false) c.access_named.ensures
