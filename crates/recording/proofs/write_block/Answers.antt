use Rattle.page.specs.Pick.{pick, ◌and◌}
use Rattle.std.proofs.lemmas.Bool.Decides.{nat_tests}
use Rattle.recording.proofs.Names.{arith, block_written}
use Rattle.recording.proofs.write_block.Goals as goal

pub returns-then-out-ge-BLOCK : goal.returns-then-out-ge-BLOCK
unfolding block_written pick ◌and◌
returns-then-out-ge-BLOCK c = grind (arith, nat_tests, c.put_block.ensures)

pub returns-else-number-lt-MOST : goal.returns-else-number-lt-MOST
unfolding block_written pick ◌and◌
returns-else-number-lt-MOST c = grind (arith, nat_tests)
