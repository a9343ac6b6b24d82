use Rattle.mkimage.specs.Names.{length, ◌+◌}
use Rattle.mkimage.proofs.Names.{◌∙◌, ap, shown}
use Rattle.wire.proofs.Pastes.{bytes_fit}
use Rattle.mkimage.proofs.output.put.Goals as goal

pub returns : goal.returns
returns c =
    let x = c.args in ap (shown (x.at + length x.s.now)) (c.put_bytes.ensures ∙ bytes_fit x.out.now x.at x.s.now c.requires)
