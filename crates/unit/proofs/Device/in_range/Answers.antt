use mathlib.Core.Bool.{Bool, true, false, ◌&&◌}
use Rattle.unit.specs.Names.{◌≡◌, ◌and◌}
use Rattle.unit.proofs.Names.{refl, in_range}
use Rattle.unit.proofs.Device.in_range.Goals as goal

all_three : (p q r : Bool) → ((p && q) && r) ≡ (p and q and r)
unfolding ◌and◌
all_three false q r = refl
all_three true false r = refl
all_three true true r = refl

pub returns : goal.returns
unfolding in_range
returns c = rw (c.registers_ok.ensures, c.pending_ok.ensures, c.in_range.ensures) (all_three _ _ _)
