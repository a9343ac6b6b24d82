use Rattle.lanes.proofs.Loops.{Changing}
use Rattle.lanes.proofs.changed.Given as goal

abbrev pub invariant-loop-w : goal.invariant-loop-w
invariant-loop-w g l = goal.F-IsAlwaysCallable g l.change × Changing (goal.F-post g l.change) l.fn.lane l.w-items l.w-index
