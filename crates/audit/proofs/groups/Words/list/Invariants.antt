use Rattle.audit.specs.Names.{◌*◌, ◌≡◌, length}
use Rattle.audit.proofs.Names.{table_pages, Put}
use Rattle.audit.proofs.groups.Words.list.Given as goal

abbrev pub invariant-loop-g : goal.invariant-loop-g
invariant-loop-g l =
    let t = l.self in
    (length l.out ≡ length l.initial.out) × Put (table_pages t.table t.memory.now t.at l.i 0 (l.g * l.n)) l.from l.initial.out l.at l.out
