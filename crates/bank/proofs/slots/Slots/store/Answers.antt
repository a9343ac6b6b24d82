use Rattle.bank.specs.Names.{◌≡◌, ◌%◌}
use Rattle.bank.proofs.Names.{arith, ap, stored_at}
use Rattle.bank.proofs.Changed.{spanned-set}
use Rattle.bank.proofs.slots.Slots.store.Goals as goal

pub returns-clause-bank : goal.returns-clause-bank
returns-clause-bank c =
    λ h. let e : c.args.at % 32 ≡ c.args.at = omega arith in ap (λ i. stored_at c.args.self.now.bank i c.args.words) e

pub returns-clause-ends : goal.returns-clause-ends
returns-clause-ends c = λ s. spanned-set _ _ _ _ _ _ _ (omega arith) s c.of-span.ensures.low c.of-span.ensures.high
