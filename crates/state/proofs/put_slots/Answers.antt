use Rattle.state.proofs.Names.{refl, sym, ◌∙◌, arith}
use Rattle.state.proofs.Turns.{slots-first, slots_turn, slots_end}
use Rattle.state.proofs.put_slots.Goals as goal

pub loop-i-init : goal.loop-i-init
loop-i-init c = (refl, slots-first _ _ _ _)

pub loop-i-preserved : goal.loop-i-preserved
loop-i-preserved c = (
  c.put.auto.out ∙ c.loop-i.invariant.0,
  c.loop-i.invariant.1
      ∙ slots_turn c.args.cam.now c.args.ram.now c.loop-i.out c.put.new.out c.args.at c.loop-i.i _ _ c.loop-i-test.true
      (omega (arith, c.requires, c.loop-i.invariant.0)) c.swapped.ensures c.swapped-in-loop-i.ensures c.put.ensures,
)

pub returns : goal.returns
returns c = sym (c.loop-i.invariant.1 ∙ slots_end _ _ _ _ _ c.loop-i-test.false)
