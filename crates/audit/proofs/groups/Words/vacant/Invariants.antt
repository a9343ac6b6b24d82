use Rattle.audit.specs.Names.{◌%◌, ◌≡◌, ℕ}
use Rattle.audit.proofs.Names.{table_word, InRun}
use Rattle.audit.proofs.groups.Words.vacant.Given as goal

abbrev pub invariant-loop-k : goal.invariant-loop-k
invariant-loop-k l = let t = l.self in l.bits % 4 ≡ 0 → InRun l.j l.k (λ (i : ℕ). table_word t.memory.now t.at i % 4 ≡ 0)
