use Rattle.std.proofs.Common.{◌≤◌, length}
use Rattle.nx.proofs.files.filled.Given as goal

abbrev pub invariant-loop : goal.invariant-loop
invariant-loop g l = l.n ≤ length l.room
