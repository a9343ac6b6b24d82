use Rattle.bank.specs.Names.{◌≡◌, ◌%◌}
use Rattle.bank.proofs.Names.{sym, arith, eq-eqb, pick_yes, low_of, high_of}
use Rattle.bank.proofs.Ends.{IsSpan, section_span, large_span, small_span, tiny_span}
use Rattle.bank.proofs.slots.Span.of.Goals as goal
use Rattle.bank.proofs.slots.Span.of.Goals.{in-0, in-1, in-2, in_default}

pub returns-then-cam-eq0-clause-low : goal.returns-then-cam-eq0-clause-low
unfolding low_of
returns-then-cam-eq0-clause-low c = sym (pick_yes _ _ _ (eq-eqb _ _ c.if-cam-eq0.true))

pub returns-then-cam-eq0-clause-high : goal.returns-then-cam-eq0-clause-high
unfolding high_of
returns-then-cam-eq0-clause-high c = sym (pick_yes _ _ _ (eq-eqb _ _ c.if-cam-eq0.true))

is_span : (c : goal.Joined-cam-rem4) → IsSpan c.args.cam c.if-cam-eq0.false c.match-cam-rem4.low
is_span c =
    elim c.match-cam-rem4.branch [
      | in-0 w ↦ section_span _ c.if-cam-eq0.false _ w.in-0.is w.low-is
      | in-1 w ↦ large_span _ c.if-cam-eq0.false _ w.in-1.is w.low-is
      | in-2 w ↦ small_span _ c.if-cam-eq0.false _ w.in-2.is w.low-is
      | in_default w ↦ tiny_span _ c.if-cam-eq0.false _ (let k : c.args.cam % 4 ≡ 3 = omega arith in k) w.low-is
    ]

pub returns-clause-low : goal.returns-clause-low
returns-clause-low c = (is_span c).0

pub returns-clause-high : goal.returns-clause-high
returns-clause-high c = (is_span c).1
