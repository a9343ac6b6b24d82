use Rattle.std.proofs.Common.{Ok}
use Rattle.audit.proofs.Names.{Scanned}
use Rattle.audit.proofs.groups.Words.scan_each.Given as goal

abbrev pub invariant-loop-k : goal.invariant-loop-k
invariant-loop-k l = let t = l.self in Scanned t.table t.memory.now t.at l.j l.k (Ok l.pages)
