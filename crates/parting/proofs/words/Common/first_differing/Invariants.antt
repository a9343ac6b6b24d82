use Rattle.parting.specs.Names.{◌-◌, ◌*◌, ◌≡◌}
use Rattle.parting.specs.Spans.{block}
use Rattle.parting.proofs.Names.{first_differing}
use Rattle.parting.proofs.words.Common.first_differing.Given as goal

abbrev pub invariant-loop-b : goal.invariant-loop-b
invariant-loop-b l = let x = l.self in first_differing x.new.now x.signed.now 0 x.count ≡ first_differing x.new.now x.signed.now (block * l.b) (x.count - block * l.b)
