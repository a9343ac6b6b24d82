use Rattle.audit.specs.Names.{◌%◌, ◌/◌, ◌≡◌, ◌≤◌, ℕ, Table}
use Rattle.audit.proofs.Names.{taken_at, InRun, PageCount}
use Rattle.audit.proofs.groups.Words.tally_fine.Given as goal

abbrev pub invariant-loop-k : goal.invariant-loop-k
invariant-loop-k l =
    let t = l.self in
    (l.pages ≤ l.k) × (l.bits / 2 % 2 ≡ 0 → InRun l.j l.k (λ (i : ℕ). taken_at Table.Fine t.memory.now t.at i ≤ 1) × PageCount Table.Fine t.memory.now t.at l.j l.k l.pages)
