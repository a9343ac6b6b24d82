use Rattle.crc.specs.Names.{◌/◌, ◌%◌}
use Rattle.crc.proofs.Names.{arith}
use Rattle.crc.proofs.share.Goals as goal

pub returns : goal.returns
returns c = let x = c.args in λ h. h.rule x.j (x.x / x.d % 256) (omega (arith, c.requires.1)) (omega arith)
