use Rattle.unit.proofs.Names.{◌∙◌}
use Rattle.unit.proofs.Acting.{drop_acts}
use Rattle.unit.proofs.Device.drop.Goals as goal

pub returns : goal.returns
returns c =
    let x = c.args in
    c.told_of.ensures ∙ drop_acts x.self _ _ c.in_range.ensures _ c.act_alone.ensures c.drop.ensures
