use Rattle.parting.specs.Spans.{block}
use Rattle.parting.specs.Names.{ℕ, ◌+◌, ◌-◌, ◌*◌, ◌/◌, ◌≡◌}
use Rattle.parting.proofs.Names.{ap, sym, ◌∙◌, arith, first_differing}
use Rattle.parting.proofs.Counting.{first-behind}
use Rattle.parting.proofs.words.Common.first_differing.Goals as goal

pub loop-b-init : goal.loop-b-init
loop-b-init c = let x = c.args.self.now in ap (first_differing x.new.now x.signed.now 0) (let z : x.count ≡ x.count - 0 = omega arith in z)

pub loop-b-preserved : goal.loop-b-preserved
loop-b-preserved c =
    let x = c.args.self.now in
    let b = c.loop-b.b in
    c.loop-b.invariant ∙ first-behind x.new.now x.signed.now (block * b) block x.count _ (omega arith) c.differing_in.ensures c.if-differing_in-ne0.false
    ∙ ap (λ (k : ℕ). first_differing x.new.now x.signed.now k (x.count - k)) (let z : block * b + block ≡ block * (b + 1) = omega arith in z)

pub returns-then-differing_in-ne0 : goal.returns-then-differing_in-ne0
returns-then-differing_in-ne0 c = c.first_from.ensures ∙ sym c.loop-b.invariant

pub returns : goal.returns
returns c =
    let x = c.args.self.now in
    c.first_from-2.ensures
    ∙ ap (λ (k : ℕ). first_differing x.new.now x.signed.now k (x.count - k)) (let z : x.count / 64 * 64 ≡ 64 * c.loop-b.b = omega arith in z)
    ∙ sym c.loop-b.invariant
