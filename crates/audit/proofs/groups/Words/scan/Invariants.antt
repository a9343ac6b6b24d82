use Rattle.std.proofs.Common.{Ok}
use Rattle.audit.specs.Names.{◌*◌}
use Rattle.audit.proofs.Names.{Scanned}
use Rattle.audit.proofs.groups.Words.scan.Given as goal

abbrev pub invariant-loop-g : goal.invariant-loop-g
invariant-loop-g l = let t = l.self in Scanned t.table t.memory.now t.at 0 (l.g * l.n) (Ok l.pages)
