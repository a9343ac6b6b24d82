use Rattle.unit.proofs.Names.{◌∙◌}
use Rattle.unit.proofs.Acting.{read_acts}
use Rattle.unit.proofs.Device.read.Goals as goal

pub returns : goal.returns
returns c =
    let x = c.args in
    c.told_of.ensures ∙ read_acts x.self _ _ c.in_range.ensures _ c.act_alone.ensures x.offset c.read.ensures
