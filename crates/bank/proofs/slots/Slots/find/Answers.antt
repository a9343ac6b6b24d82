use Rattle.bank.proofs.Names.{sym, ◌∙◌}
use Rattle.bank.proofs.Seeking.{sought-lt}
use Rattle.bank.proofs.Matching.{sought_looked}
use Rattle.bank.proofs.slots.Slots.find.Goals as goal

pub returns-clause-slot : goal.returns-clause-slot
returns-clause-slot c = λ i e. sought-lt _ _ _ i (sym c.search.ensures ∙ e)

pub returns-clause-lowest : goal.returns-clause-lowest
returns-clause-lowest c =
    let x = c.args in
    let i = x.self.now in
    λ s k v. c.search.ensures ∙ sought_looked i.bank.cam i.lows i.highs x.va v k s.low_ends s.high_ends
