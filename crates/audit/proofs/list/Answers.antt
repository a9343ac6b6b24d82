use Rattle.audit.specs.declared.ListError.{ListError}
use Rattle.std.proofs.Common.{Ok, Err}
use Rattle.std.proofs.lemmas.Result.{err_from_is_err_and}
use Rattle.audit.specs.Names.{length, megabytes}
use Rattle.audit.proofs.Names.{le-ltb, lt-ltb, ◌∙◌, ap, refl, sym, arith, pick_no, pick_yes, level_pages, inventoried}
use Rattle.audit.proofs.Inside.{image-ends}
use Rattle.audit.proofs.Accepts.{accepted_audited}
use Rattle.audit.proofs.Putting.{put_zero, list-is}
use Rattle.audit.proofs.list.Goals as goal

pub returns-in_err-n : goal.returns-in_err-n
returns-in_err-n c =
    let x = c.args in
    let p = err_from_is_err_and c.from_residual.result c.from_residual.ensures.1 in
    ap (λ r. inventoried r x.out.now) (p.1 ∙ ap Err p.2)
    ∙ list-is megabytes x.memory.now x.base.0 x.out.now (Err _) (Err (ListError.Image _)) (sym c.check.ensures ∙ c.in_err-n.was) refl

pub returns-then-out-n : goal.returns-then-out-n
returns-then-out-n c =
    let x = c.args in
    list-is megabytes x.memory.now x.base.0 x.out.now (Ok _) (Err (ListError.TooShort _)) (sym c.check.ensures ∙ c.in_ok-n.was)
    (pick_yes _ _ _ (lt-ltb (length x.out.now) _ (omega (arith, c.if-out-n.true))))

pub invariant_of-image : goal.invariant_of-image
invariant_of-image c =
    let x = c.args in
    let a = accepted_audited megabytes x.memory.now x.base.0 _ (sym c.check.ensures ∙ c.in_ok-n.was) in
    record { below = image-ends _ _ a.0.memory; first = a.0.first }

pub list-requires : goal.list-requires
list-requires c =
    let x = c.args in
    let a = accepted_audited megabytes x.memory.now x.base.0 _ (sym c.check.ensures ∙ c.in_ok-n.was) in
    record { first = a.0.first; sound = λ i h. a.0.level i (omega arith) (omega (arith, h)); records = omega (arith, a.1, c.if-out-n.false) }

pub returns : goal.returns
returns c =
    let x = c.args in
    let e = sym c.check.ensures ∙ c.in_ok-n.was in
    let a = accepted_audited megabytes x.memory.now x.base.0 _ e in
    ap (inventoried _) (c.list.ensures ∙ put_zero (level_pages x.memory.now x.base.0 0 megabytes) _ x.out.now a.1)
    ∙ list-is megabytes x.memory.now x.base.0 x.out.now (Ok _) (Ok _) e (pick_no _ _ _ (le-ltb (length x.out.now) _ (omega (arith, c.if-out-n.false))))
