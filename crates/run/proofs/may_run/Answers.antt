use Rattle.page.specs.Pick.{◌and◌}
use Rattle.std.proofs.lemmas.Bool.Decides.{nat_tests}
use Rattle.run.proofs.Names.{arith, may_run}
use Rattle.run.proofs.Room.{room_for}
use Rattle.run.proofs.may_run.Goals as goal

pub returns-then-room-ge-SIZE : goal.returns-then-room-ge-SIZE
unfolding may_run ◌and◌
returns-then-room-ge-SIZE c = grind (arith, nat_tests, room_for)

pub returns-else-room-ge-SIZE : goal.returns-else-room-ge-SIZE
unfolding may_run ◌and◌
returns-else-room-ge-SIZE c = grind (arith, nat_tests)
