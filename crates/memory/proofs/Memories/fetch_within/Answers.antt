use Rattle.memory.proofs.Names.{Inside, sym, ◌∙◌, subst}
use Rattle.memory.proofs.Places.{inside-within}
use Rattle.memory.proofs.Memories.fetch_within.Goals as goal

pub four-requires : goal.four-requires
four-requires c = (subst (Inside _ _) (sym c.locate_within.ensures ∙ c.in-OnChip.is) (inside-within _ _)).0

pub four-requires-in-External : goal.four-requires-in-External
four-requires-in-External c = (subst (Inside _ _) (sym c.locate_within.ensures ∙ c.in-External.is) (inside-within _ _)).0
