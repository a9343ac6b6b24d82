use Rattle.audit.specs.Names.{◌*◌, ◌≡◌, length, Table}
use Rattle.audit.proofs.Names.{table_pages, Put}
use Rattle.audit.proofs.groups.Words.list_smalls.Given as goal

abbrev pub invariant-loop-g : goal.invariant-loop-g
invariant-loop-g l =
    let t = l.self in
    (length l.out ≡ length l.initial.out) × Put (table_pages Table.Fine t.memory.now t.at l.i l.j (4 * l.g)) l.from l.initial.out l.at l.out
