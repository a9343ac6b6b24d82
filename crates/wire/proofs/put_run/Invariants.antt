use Rattle.wire.specs.Names.{◌≡◌, ℕ}
use Rattle.wire.proofs.Names.{spliced}
use Rattle.wire.proofs.put_run.Given as goal

abbrev pub invariant-loop-i : goal.invariant-loop-i
invariant-loop-i l = l.out ≡ spliced l.initial.out l.at (λ (_ : ℕ). l.w) l.i
