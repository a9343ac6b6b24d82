use Rattle.calls.specs.Names.{pick, ℕ, virtual, Call, Access, Option, Some}
use Rattle.calls.proofs.Names.{◌∙◌, ap, pick_no, ne_eqb, call_by, write_by, read_by, request_by, drop_by}
use Rattle.calls.proofs.Good.{write_known, read_known, request_known, drop_known, last_known, alike}
use Rattle.calls.proofs.forms.known.Goals as goal

pub returns-in-1 : goal.returns-in-1
unfolding call_by pick
returns-in-1 c =
    let x = c.args in alike _ (write_by x.byte x.address x.value) _ (ap (λ (k : ℕ). call_by k x.byte x.address x.value) c.in-1.is) (write_known _ _ _)

pub returns-in-2 : goal.returns-in-2
unfolding call_by pick
returns-in-2 c =
    let x = c.args in alike _ (read_by x.byte x.address x.value) _ (ap (λ (k : ℕ). call_by k x.byte x.address x.value) c.in-2.is) (read_known _ _ _)

pub returns-in-3 : goal.returns-in-3
unfolding call_by pick
returns-in-3 c =
    let x = c.args in λ g. ap (λ (a : Access). Some (Call.Request (virtual x.address) a)) c.access_of.ensures ∙ alike _ (request_by x.byte x.address x.value) _
    (ap (λ (k : ℕ). call_by k x.byte x.address x.value) c.in-3.is) (request_known _ _ _) g

pub returns-in-4 : goal.returns-in-4
unfolding call_by pick
returns-in-4 c =
    let x = c.args in alike _ (drop_by x.byte x.address x.value) _ (ap (λ (k : ℕ). call_by k x.byte x.address x.value) c.in-4.is) (drop_known _ _ _)

pub returns-in_default : goal.returns-in_default
unfolding call_by
returns-in_default c =
    let x = c.args in
    alike _ _ _ (pick_no _ _ _ (ne_eqb _ _ c.in_default.in_default-own.rest.0.0.0.1) ∙ pick_no _ _ _ (ne_eqb _ _ c.in_default.in_default-own.rest.0.0.1) ∙ pick_no _ _ _ (ne_eqb _ _ c.in_default.in_default-own.rest.0.1)
    ∙ pick_no _ _ _ (ne_eqb _ _ c.in_default.in_default-own.rest.1)) (last_known x.kind x.byte x.address x.value)
