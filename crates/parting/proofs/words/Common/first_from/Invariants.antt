use Rattle.parting.specs.Names.{◌-◌, ◌≡◌}
use Rattle.parting.proofs.Names.{first_differing}
use Rattle.parting.proofs.words.Common.first_from.Given as goal

abbrev pub invariant-loop-j : goal.invariant-loop-j
invariant-loop-j l = let x = l.self in first_differing x.new.now x.signed.now l.k (x.count - l.k) ≡ first_differing x.new.now x.signed.now l.j (x.count - l.j)
