use Rattle.bank.specs.Names.{◌≡◌}
use Rattle.bank.proofs.Names.{rules, arith}
use Rattle.bank.proofs.Ends.{filled_more}
use Rattle.bank.proofs.slots.Slots.of.Goals as goal

pub loop-i-init : goal.loop-i-init
loop-i-init c = record {
  low_ends = λ j l. absurd (omega arith);
  high_ends = λ j l. absurd (omega arith);
  lows_long = search rules;
  highs_long = search rules;
}

pub loop-i-preserved : goal.loop-i-preserved
loop-i-preserved c = filled_more _ _ _ _ _ _ c.loop-i-test.true c.loop-i.invariant c.of-span.ensures.low c.of-span.ensures.high

pub returns-clause-ends : goal.returns-clause-ends
returns-clause-ends c =
    let w = c.loop-i.invariant in
    record {
      low_ends = λ j l. w.low_ends j (omega arith);
      high_ends = λ j l. w.high_ends j (omega arith);
      cam-long = search rules;
      lows_long = w.lows_long;
      highs_long = w.highs_long;
    }
