use Rattle.state.specs.Names.{length, ◌+◌, ◌*◌, slots, placed, ◌≡◌}
use Rattle.state.proofs.Names.{slot_words}
use Rattle.state.proofs.Turns.{slots_left}
use Rattle.state.proofs.put_slots.Given as goal

abbrev pub invariant-loop-i : goal.invariant-loop-i
invariant-loop-i l = (length l.out ≡ length l.initial.out) × (placed l.initial.out l.at (slot_words l.cam l.ram 0 slots) ≡ placed l.out (l.at + 8 * l.i) (slots_left l.cam l.ram l.i))
