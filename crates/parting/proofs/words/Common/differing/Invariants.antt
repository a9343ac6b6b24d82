use Rattle.parting.specs.Names.{◌+◌, ◌*◌, ◌≡◌}
use Rattle.parting.specs.Spans.{block}
use Rattle.parting.proofs.Names.{differing}
use Rattle.parting.proofs.words.Common.differing.Given as goal

abbrev pub invariant-loop-b : goal.invariant-loop-b
invariant-loop-b l = let x = l.self in differing x.new.now x.signed.now (l.k + block * l.b) ≡ differing x.new.now x.signed.now l.k + l.d
