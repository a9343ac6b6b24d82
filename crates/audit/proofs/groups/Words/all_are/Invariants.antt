use Rattle.audit.specs.Names.{◌+◌, ◌-◌, ◌≡◌}
use Rattle.audit.proofs.Names.{all_are}
use mathlib.Core.Bool.{◌&&◌}
use Rattle.audit.proofs.groups.Words.all_are.Given as goal

abbrev pub invariant-loop-k : goal.invariant-loop-k
invariant-loop-k l = let t = l.self in all_are t.memory.now t.at l.w l.j l.n ≡ (l.same && all_are t.memory.now t.at l.w (l.j + l.k) (l.n - l.k))
