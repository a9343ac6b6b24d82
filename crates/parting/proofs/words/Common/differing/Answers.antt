use Rattle.parting.specs.Spans.{block}
use Rattle.parting.specs.Names.{ℕ, ◌+◌, ◌-◌, ◌*◌, ◌/◌, ◌%◌, ◌≡◌}
use Rattle.parting.proofs.Names.{ap, arith, differing}
use Rattle.parting.proofs.Counting.{differing-few}
use Rattle.parting.proofs.words.Common.differing.Goals as goal

pub overflow_add-d : goal.overflow_add-d
overflow_add-d c =
    let x = c.args.self.now in
    omega (arith, c.loop-b.invariant, c.differing_in.ensures, differing-few x.new.now x.signed.now (c.args.k + block * c.loop-b.b + block))

pub overflow_add-result : goal.overflow_add-result
overflow_add-result c =
    let x = c.args.self.now in
    let n : ℕ = x.count - c.args.k in
    let e : differing x.new.now x.signed.now (c.args.k + n / 64 * 64) ≡ differing x.new.now x.signed.now (c.args.k + block * c.loop-b.b) =
    ap (differing x.new.now x.signed.now) (let z : c.args.k + n / 64 * 64 ≡ c.args.k + block * c.loop-b.b = omega arith in z) in
    omega (arith, c.loop-b.invariant, c.differing_in-2.ensures, e, differing-few x.new.now x.signed.now (c.args.k + n / 64 * 64 + n % 64))
