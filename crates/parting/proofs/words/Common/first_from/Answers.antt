use Rattle.parting.specs.Names.{◌-◌, ◌≡◌}
use Rattle.parting.proofs.Names.{ap, sym, ◌∙◌, refl, arith, first_differing}
use Rattle.parting.proofs.Counting.{first_here, first_next, first-none}
use Rattle.parting.proofs.words.Common.first_from.Goals as goal

pub loop-j-init : goal.loop-j-init
loop-j-init c = refl

pub returns-then-differs_at : goal.returns-then-differs_at
returns-then-differs_at c =
    let x = c.args.self.now in
    let j = c.loop-j.j in
    sym (c.loop-j.invariant ∙ first_here x.new.now x.signed.now j (x.count - j) (omega arith) (sym c.differs_at.ensures ∙ c.if-differs_at.true))

pub loop-j-preserved : goal.loop-j-preserved
loop-j-preserved c =
    let x = c.args.self.now in
    c.loop-j.invariant ∙ first_next x.new.now x.signed.now c.loop-j.j x.count (omega arith) (sym c.differs_at.ensures ∙ c.if-differs_at.false)

pub returns : goal.returns
returns c =
    let x = c.args.self.now in
    let j = c.loop-j.j in
    let e : x.count ≡ j = omega arith in
    let z : x.count - j ≡ 0 = omega arith in
    sym (c.loop-j.invariant ∙ ap (first_differing x.new.now x.signed.now j) z ∙ first-none x.new.now x.signed.now j ∙ sym e)
