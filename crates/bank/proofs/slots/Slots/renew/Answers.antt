use Rattle.bank.proofs.Names.{rules, refl}
use Rattle.bank.proofs.Changed.{renewing_starts, renewing_more, renewing_ends}
use Rattle.bank.proofs.slots.Slots.renew.Goals as goal

pub loop-i-init : goal.loop-i-init
loop-i-init c = (refl, λ s. renewing_starts c.args.self.now.bank c.args.self.now.bank _ _ _ refl s)

pub loop-i-preserved : goal.loop-i-preserved
loop-i-preserved c =
    let w = c.loop-i.invariant in
    (w.0, λ s. renewing_more _ _ _ _ _ _ _ c.loop-i-test.true c.requires (w.1 s) c.kept-kept.ensures.low c.kept-kept.ensures.high)

pub returns-clause-bank : goal.returns-clause-bank
returns-clause-bank c = c.loop-i.invariant.0

pub returns-clause-ends : goal.returns-clause-ends
returns-clause-ends c =
    λ s. let w = c.loop-i.invariant in renewing_ends _ _ _ _ _ _ c.loop-i-test.false (search rules) w.0 (w.1 s)
