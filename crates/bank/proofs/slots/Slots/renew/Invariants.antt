use Rattle.bank.specs.Names.{Bank, List, ℕ, ◌≡◌}
use Rattle.bank.specs.Changes.{with_cams}
use Rattle.bank.specs.InPlace.{IsSpanned}
use Rattle.bank.proofs.Changed.{Renewing}
use Rattle.bank.proofs.slots.Slots.renew.Given as goal

abbrev pub invariant-loop-i : goal.invariant-loop-i
invariant-loop-i l =
    (l.self.bank ≡ with_cams l.fn.self.bank l.cam)
    × (IsSpanned l.fn.self → Renewing l.fn.self.bank.cam l.cam l.self.lows l.self.highs l.i)
