use Rattle.audit.specs.Names.{◌≡◌, length}
use Rattle.audit.proofs.Names.{level_pages, Put}
use Rattle.audit.proofs.images.Image.list.Given as goal

abbrev pub invariant-loop-i : goal.invariant-loop-i
invariant-loop-i l = let m = l.self in (length l.out ≡ length l.initial.out) × Put (level_pages m.memory.now m.base 0 l.i) 0 l.initial.out l.at l.out
