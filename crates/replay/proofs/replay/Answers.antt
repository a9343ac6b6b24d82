use Rattle.replay.specs.Names.{lent_of}
use Rattle.replay.proofs.Names.{refl, ◌∙◌, ap, arith}
use Rattle.replay.proofs.Turns.{Going, replay_turn, replay_end, replay_none}
use Rattle.session.specs.Bench.{stepped}
use Rattle.replay.proofs.replay.Goals as goal

pub returns-then-out-n : goal.returns-then-out-n
returns-then-out-n c =
    let x = c.args in
    let k = c.count-n in
    replay_none (lent_of x.memories.now) x.prices x.calls.now k.result x.start x.out.now k.ensures (omega arith)

pub loop-i-init : goal.loop-i-init
loop-i-init c = record { long = refl; same = refl }

pub loop-i-preserved : goal.loop-i-preserved
loop-i-preserved c =
    let x = c.args in
    let m = lent_of x.memories.now in
    let l = c.loop-i in
    let n = c.count-n.result in
    let h = c.loop-i-test.true in
    record {
      long = c.put_said.auto.out ∙ l.invariant.long;
      same = l.invariant.same ∙ replay_turn m x.prices x.calls.now n l.out _ l.bench l.i c.step-s.result h (omega (arith, c.if-out-n.false, l.invariant.long))
          (c.step-s.ensures ∙ ap (stepped m x.prices l.bench) c.decode.ensures) c.put_said.ensures;
    }

pub returns : goal.returns
returns c =
    let x = c.args in
    let m = lent_of x.memories.now in
    let l = c.loop-i in
    let k = c.count-n in
    replay_end m x.prices x.calls.now k.result x.start x.out.now k.ensures l.bench l.out l.i
    (omega (arith, c.if-out-n.false)) c.loop-i-test.false l.invariant.same
