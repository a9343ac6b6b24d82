use Rattle.listing.specs.Names.{◌≡◌, ◌+◌}
use Rattle.listing.proofs.Names.{run_length, sym, ◌∙◌, arith}
use Rattle.listing.proofs.Runs.{passed_stop, passed_more, passed_all}
use Rattle.listing.proofs.tokens.run.Goals as goal

pub loop-i-init : goal.loop-i-init
loop-i-init c = let e : run_length c.args.c c.args.s.now ≡ 0 + run_length c.args.c c.args.s.now = omega arith in e

pub returns-then-not-belongs : goal.returns-then-not-belongs
returns-then-not-belongs c = passed_stop _ _ c.loop-i.i (omega arith) c.loop-i.invariant (sym c.belongs.ensures ∙ c.if-not-belongs.true)

pub loop-i-preserved : goal.loop-i-preserved
loop-i-preserved c = passed_more _ _ c.loop-i.i (omega arith) c.loop-i.invariant (sym c.belongs.ensures ∙ c.if-not-belongs.false)

pub returns : goal.returns
returns c = omega (arith, passed_all _ _ c.loop-i.i (omega arith) (omega arith) c.loop-i.invariant)
