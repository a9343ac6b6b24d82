use Rattle.bank.proofs.Names.{next_victim, sym, pick_yes, pick_no, lt-ltb, le-ltb}
use Rattle.bank.proofs.next_victim.Goals as goal

pub returns-then-at-lt-SLOTS : goal.returns-then-at-lt-SLOTS
unfolding next_victim
returns-then-at-lt-SLOTS c = sym (pick_yes _ _ _ (lt-ltb _ _ c.if-at-lt-SLOTS.true))

pub returns-else-at-lt-SLOTS : goal.returns-else-at-lt-SLOTS
unfolding next_victim
returns-else-at-lt-SLOTS c = sym (pick_no _ _ _ (le-ltb _ _ c.if-at-lt-SLOTS.false))
