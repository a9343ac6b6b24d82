use Rattle.std.proofs.Common.{◌-◌, ◌≤◌}
use Rattle.nx.proofs.changes.Changes.print.Given as goal

abbrev pub invariant-loop-k : goal.invariant-loop-k
invariant-loop-k l = (l.k ≤ l.n) × (l.n ≤ 32768)

abbrev pub decreases-loop-k : goal.decreases-loop-k
decreases-loop-k l = l.n - l.k
