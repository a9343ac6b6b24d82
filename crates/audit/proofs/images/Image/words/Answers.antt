use Rattle.audit.proofs.Names.{arith}
use Rattle.audit.proofs.Inside.{inside-from, inside_to}
use Rattle.audit.proofs.images.Image.words.Goals as goal

pub overflow_sub-result : goal.overflow_sub-result
overflow_sub-result c = inside-from _ _ _ _ c.requires

pub invariant_of-result : goal.invariant_of-result
invariant_of-result c = record { inside = omega (arith, inside-from _ _ _ _ c.requires, inside_to _ _ _ _ c.requires) }
