use Rattle.std.proofs.Common.{Err}
use Rattle.std.proofs.lemmas.Result.{err_from_is_err_and}
use Rattle.listing.specs.Names.{ℕ, ◌<◌, ◌≤◌}
use Rattle.listing.proofs.Names.{address_in, sym, ap, ◌∙◌, subst, pick_yes, pick_no, le-leb, lt-leb}
use Rattle.listing.proofs.Says.{address_at}
use Rattle.listing.proofs.line.address.Goals as goal

pub returns-then-is_empty : goal.returns-then-is_empty
unfolding address_in
returns-then-is_empty c = sym (pick_yes _ _ _ (sym c.is_empty.ensures ∙ c.if-is_empty.true))

pub returns-in_err-x : goal.returns-in_err-x
returns-in_err-x c =
    let p = err_from_is_err_and c.from_residual.result c.from_residual.ensures.1 in
    p.1 ∙ ap Err p.2 ∙ address_at _ _ _ _ _ (sym c.is_empty.ensures ∙ c.if-is_empty.false) c.number.ensures c.in_err-x.was

pub returns-then-end-from : goal.returns-then-end-from
returns-then-end-from c =
    sym (pick_yes _ _ _ (le-leb _ _ (subst (λ (z : ℕ). c.args.end ≤ z) c.from.ensures c.if-end-from.true)))
    ∙ address_at _ _ _ _ _ (sym c.is_empty.ensures ∙ c.if-is_empty.false) c.number.ensures c.in_ok-x.was

pub returns-then-multiple : goal.returns-then-multiple
returns-then-multiple c =
    sym (pick_no _ _ _ (lt-leb _ _ (subst (λ (z : ℕ). z < c.args.end) c.from.ensures c.if-end-from.false)) ∙ pick_yes _ _ _ (sym c.multiple.ensures ∙ c.if-multiple.true))
    ∙ address_at _ _ _ _ _ (sym c.is_empty.ensures ∙ c.if-is_empty.false) c.number.ensures c.in_ok-x.was

pub returns-else-multiple : goal.returns-else-multiple
returns-else-multiple c =
    sym (pick_no _ _ _ (lt-leb _ _ (subst (λ (z : ℕ). z < c.args.end) c.from.ensures c.if-end-from.false)) ∙ pick_no _ _ _ (sym c.multiple.ensures ∙ c.if-multiple.false))
    ∙ address_at _ _ _ _ _ (sym c.is_empty.ensures ∙ c.if-is_empty.false) c.number.ensures c.in_ok-x.was
