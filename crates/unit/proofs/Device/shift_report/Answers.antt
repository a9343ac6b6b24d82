use Rattle.unit.specs.Names.{Done}
use Rattle.unit.proofs.Names.{ap, told_of}
use Rattle.unit.specs.Device.{reported}
use Rattle.unit.specs.Acts.{shift_in}
use Rattle.unit.proofs.Acting.{shift_acts}
use Rattle.unit.proofs.Device.shift_report.Goals as goal

pub returns : goal.returns
returns c =
    let x = c.args in
    let e = shift_acts _ _ _ x.self _ x.va _ _ c.in_range.ensures c.ok.ensures c.shift-plan.ensures _ c.act-x.ensures in
    rw c.shift_in.ensures (ap (λ (y : Done). reported (told_of y).device (shift_in y.said) y.from) e)
