use Rattle.crc.specs.Names.{pick}
use Rattle.crc.proofs.Names.{refl, bit_step, bit_steps}
use Rattle.crc.proofs.Rows.{table_is}
use Rattle.page.specs.Pick.{◌and◌}
use Rattle.crc.proofs.table.Goals as goal

pub returns : goal.returns
unfolding bit_steps bit_step pick ◌and◌
returns c = table_is _ refl refl
