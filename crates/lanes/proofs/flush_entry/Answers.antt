use Rattle.lanes.proofs.Names.{rules, arith, flushed_entry, word_flushed_at}
use Rattle.lanes.proofs.Loops.{map_at}
use Rattle.lanes.proofs.flush_entry.Goals as goal

pub returns : goal.returns
unfolding flushed_entry
returns c = map_at (word_flushed_at c.args.va) c.args.cam c.changed.result (search rules) (λ i b. let k = c.changed.ensures i (omega (arith, b)) in search rules)
