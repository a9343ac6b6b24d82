use Rattle.walk.proofs.Names.{Room, sym, ◌∙◌, subst, arith}
use Rattle.walk.proofs.Laws.{room}
use Rattle.walk.proofs.first_level.Goals as goal

pub overflow_add-at : goal.overflow_add-at
overflow_add-at c = omega (arith, subst Room (sym c.decode_first.ensures ∙ c.in-Coarse.is) (room c.args.w (omega arith)))

pub overflow_add-at-in-Fine : goal.overflow_add-at-in-Fine
overflow_add-at-in-Fine c = omega (arith, subst Room (sym c.decode_first.ensures ∙ c.in-Fine.is) (room c.args.w (omega arith)))
