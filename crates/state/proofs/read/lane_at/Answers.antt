use Rattle.state.proofs.Names.{arith, rules}
use Rattle.state.proofs.Lanes.{slot_word, made_all, lane_made}
use Rattle.state.proofs.read.lane_at.Goals as goal

pub returns : goal.returns
returns c =
    let s = c.args.state.now in
    let at = c.args.at in
    lane_made s c.from_fn.result at c.from_fn.ensures.items.long
    (made_all (slot_word s at) c.from_fn.ensures.items (λ i y q e. search rules))
