use Rattle.unit.proofs.Names.{◌∙◌}
use Rattle.unit.proofs.Acting.{request_acts}
use Rattle.unit.proofs.Device.request.Goals as goal

pub returns : goal.returns
returns c =
    let x = c.args in
    c.outcome_of.ensures ∙ request_acts _ x.prices x.bill x.self _ _ c.tried-tried.ensures x.va x.a c.request.ensures _ c.act.ensures
