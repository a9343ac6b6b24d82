use Rattle.audit.specs.Names.{◌≡◌, length}
use Rattle.audit.proofs.Names.{table_pages, Put}
use Rattle.audit.proofs.groups.Words.list_each.Given as goal

abbrev pub invariant-loop-k : goal.invariant-loop-k
invariant-loop-k l =
    let t = l.self in
    (length l.out ≡ length l.initial.out) × Put (table_pages t.table t.memory.now t.at l.i l.j l.k) l.from l.initial.out l.at l.out
