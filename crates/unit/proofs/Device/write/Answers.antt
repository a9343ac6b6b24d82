use Rattle.unit.proofs.Names.{◌∙◌}
use Rattle.unit.proofs.Acting.{write_acts}
use Rattle.unit.proofs.Device.write.Goals as goal

pub returns : goal.returns
returns c =
    let x = c.args in
    c.outcome_of.ensures ∙ write_acts _ x.prices x.bill x.self _ _ c.tried-tried.ensures x.offset x.v c.write-plan.ensures _ c.act.ensures
