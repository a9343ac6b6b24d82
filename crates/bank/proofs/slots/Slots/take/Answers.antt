use Rattle.bank.specs.Names.{Bank, Some, Words, ◌<◌, Option}
use Rattle.bank.specs.Changes.{next_slot}
use Rattle.bank.proofs.Names.{sym, ◌∙◌, ap, subst, entry_filled}
use Rattle.bank.proofs.Changed.{slot_lt, filled_is}
use Rattle.bank.proofs.slots.Slots.take.Goals as goal

pub returns-in-Some-clause-bank : goal.returns-in-Some-clause-bank
returns-in-Some-clause-bank c =
    λ l v.
    let old = c.args.self.now.bank in
    let at = c.next_slot-at.ensures in
    let within = subst (λ x. x < 32) (sym at) (slot_lt old.victim old.lock v l) in
    filled_is old _ _ _ _ at (c.store.ensures.bank within) c.next_victim-self.ensures ∙ ap (entry_filled old) (sym c.in-Some.is)
