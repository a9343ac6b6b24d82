use Rattle.bank.proofs.Names.{pick_yes, pick_no, next_slot, sym, lt-ltb, le-ltb}
use Rattle.bank.proofs.next_slot.Goals as goal

pub returns-then-victim-lock : goal.returns-then-victim-lock
unfolding next_slot
returns-then-victim-lock c = sym (pick_yes _ _ _ (lt-ltb _ _ c.if-victim-lock.true))

pub returns-else-victim-lock : goal.returns-else-victim-lock
unfolding next_slot
returns-else-victim-lock c = sym (pick_no _ _ _ (le-ltb _ _ c.if-victim-lock.false))
