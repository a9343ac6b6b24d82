use Rattle.std.proofs.Common.{Ok}
use Rattle.audit.specs.Names.{◌*◌, Table}
use Rattle.audit.proofs.Names.{Scanned}
use Rattle.audit.proofs.groups.Words.scan_smalls.Given as goal

abbrev pub invariant-loop-g : goal.invariant-loop-g
invariant-loop-g l = let t = l.self in Scanned Table.Fine t.memory.now t.at l.j (4 * l.g) (Ok l.pages)
