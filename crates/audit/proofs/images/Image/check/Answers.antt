use Rattle.std.proofs.Common.{Ok, Err}
use Rattle.std.proofs.lemmas.Result.{err_from_is_err_and}
use Rattle.audit.specs.Names.{◌≡◌, length, megabytes}
use Rattle.audit.proofs.Names.{◌∙◌, ap, refl, sym, arith, level_pages}
use Rattle.audit.proofs.Verdicts.{err_refuses, level_turn, level-stop, level-end, pages-end, first_good}
use Rattle.audit.proofs.images.Image.check.Goals as goal

pub loop-i-init : goal.loop-i-init
loop-i-init c = (omega arith, λ _. refl, omega arith)

pub overflow_add-pages : goal.overflow_add-pages
overflow_add-pages c =
    let m = c.args.self.now in omega (arith, c.loop-i.invariant.0, first_good m.memory.now m.base c.loop-i.i _ (sym c.check_first.ensures ∙ c.in_ok-pages.was))

pub loop-i-preserved : goal.loop-i-preserved
loop-i-preserved c =
    let m = c.args.self.now in
    let i = c.loop-i.i in
    let v = c.loop-i.invariant in
    let e = sym c.check_first.ensures ∙ c.in_ok-pages.was in
    let t = level_turn m.memory.now m.base megabytes i (omega arith) _ e in (
      omega (arith, v.0, first_good m.memory.now m.base i _ e),
      (λ rest. v.1 rest ∙ t.0 rest),
      omega (arith, v.2, t.1),
    )

pub returns-in_err-pages : goal.returns-in_err-pages
returns-in_err-pages c =
    let m = c.args.self.now in
    let p = err_from_is_err_and c.from_residual.result c.from_residual.ensures.1 in
    p.1 ∙ ap Err p.2
    ∙ sym (c.loop-i.invariant.1 _ ∙ level-stop m.memory.now m.base megabytes c.loop-i.i (omega arith) (Err _) (err_refuses _) (sym c.check_first.ensures ∙ c.in_err-pages.was) _)

pub returns : goal.returns
returns c =
    let m = c.args.self.now in
    let v = c.loop-i.invariant in
    let p = ap length (pages-end m.memory.now m.base megabytes c.loop-i.i (omega arith)) in
    sym (v.1 _ ∙ level-end m.memory.now m.base megabytes c.loop-i.i (omega arith) _ ∙ ap Ok (let z : length (level_pages m.memory.now m.base 0 megabytes) ≡ c.loop-i.pages = omega (arith, v.2, p) in z))
