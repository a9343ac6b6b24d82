use Rattle.std.proofs.Common.{Ok}
use Rattle.std.proofs.lemmas.Result.{err_from_is_err_and}
use Rattle.decision.specs.Names.{distance_of, PhysicalAddress}
use Rattle.decision.proofs.Names.{refl, sym, ◌∙◌, ap}
use mir.Syntax.{w64}
use mir.Facts.{to_z-of_z}
use Rattle.decision.specs.Prefetches.{shift_by}
use Rattle.decision.proofs.shift_by.Goals as goal

pub returns-in_err-page : goal.returns-in_err-page
returns-in_err-page c =
    let p = err_from_is_err_and c.from_residual.result c.from_residual.ensures.1 in rw (p.1, p.2, c.in_err-page.was) refl

pub returns : goal.returns
returns c =
    ap Ok (to_z-of_z {w = w64} (record { sfits = c.distance.type_inv }) ∙ c.distance.ensures ∙ ap (λ (p : PhysicalAddress). distance_of p c.args.va) c.physical.ensures) ∙
    sym (ap (shift_by c.args.va) c.in_ok-page.was)
