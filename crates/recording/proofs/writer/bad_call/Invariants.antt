use Rattle.recording.specs.Names.{◌≡◌, ◌-◌}
use Rattle.recording.proofs.Names.{first_bad}
use Rattle.recording.proofs.writer.bad_call.Given as goal

abbrev pub invariant-loop-i : goal.invariant-loop-i
invariant-loop-i l = first_bad l.calls 0 l.most ≡ first_bad l.calls l.i (l.most - l.i)
