use Rattle.lanes.proofs.Names.{rules, arith, flushed_all, word_flushed}
use Rattle.lanes.proofs.Loops.{map_at}
use Rattle.lanes.proofs.flush_all.Goals as goal

pub returns : goal.returns
unfolding flushed_all
returns c = map_at word_flushed c.args.cam c.changed.result (search rules) (λ i b. let k = c.changed.ensures i (omega (arith, b)) in search rules)
