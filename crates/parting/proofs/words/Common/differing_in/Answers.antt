use Rattle.parting.specs.Names.{◌+◌, ◌≡◌}
use Rattle.parting.proofs.Names.{ap, sym, ◌∙◌, arith, differing}
use Rattle.parting.proofs.Counting.{byte-few, count_next}
use Rattle.parting.proofs.words.Common.differing_in.Goals as goal

pub loop-i-init : goal.loop-i-init
loop-i-init c =
    let k = c.args.k in
    let x = c.args.self.now in (omega arith, ap (differing x.new.now x.signed.now) (let z : k + 0 ≡ k = omega arith in z) ∙ omega arith)

pub overflow_add-d : goal.overflow_add-d
overflow_add-d c = omega (arith, byte-few c.differs_at.result)

pub loop-i-preserved : goal.loop-i-preserved
loop-i-preserved c =
    let x = c.args.self.now in
    let i = c.loop-i.invariant in (
      omega (arith, byte-few c.differs_at.result, i.0),
      count_next x.new.now x.signed.now c.args.k c.loop-i.i c.loop-i.d _ i.1 c.differs_at.ensures,
    )

pub returns : goal.returns
returns c =
    let x = c.args.self.now in
    let z : c.loop-i.i ≡ c.args.n = omega arith in
    ap (λ m. differing x.new.now x.signed.now (c.args.k + m)) (sym z) ∙ c.loop-i.invariant.1
