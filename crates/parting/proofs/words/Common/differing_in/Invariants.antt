use Rattle.parting.specs.Names.{◌+◌, ◌≡◌, ◌≤◌}
use Rattle.parting.proofs.Names.{differing}
use Rattle.parting.proofs.words.Common.differing_in.Given as goal

abbrev pub invariant-loop-i : goal.invariant-loop-i
invariant-loop-i l = let x = l.self in (l.d ≤ l.i) × (differing x.new.now x.signed.now (l.k + l.i) ≡ differing x.new.now x.signed.now l.k + l.d)
