use Rattle.state.proofs.Names.{arith, nat_tests, ◌and◌, ◌or◌}
use Rattle.state.proofs.read.status_ok.Goals as goal

pub returns-in-0 : goal.returns-in-0
unfolding ◌or◌
returns-in-0 c = grind (arith, nat_tests)

pub returns-in-0-2 : goal.returns-in-0-2
unfolding ◌or◌
returns-in-0-2 c = grind (arith, nat_tests)

pub returns-in_default : goal.returns-in_default
unfolding ◌or◌
returns-in_default c = grind (arith, nat_tests)
