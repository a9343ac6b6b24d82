use Rattle.bank.specs.Names.{pick, ◌≡◌, get_or}
use Rattle.bank.proofs.Names.{rules, sym, ◌∙◌, pick_yes, pick_no, in_span}
use Rattle.bank.proofs.Seeking.{seeking_starts, seeking_turns, seeking_finds, seeking_misses}
use Rattle.bank.proofs.slots.search.Goals as goal
use Rattle.bank.proofs.slots.search.Goals.{then-has, else-has}

pub loop-i-init : goal.loop-i-init
loop-i-init c = seeking_starts _ _ _

pub loop-i-preserved : goal.loop-i-preserved
loop-i-preserved c =
    let x = c.args in
    let i = c.loop-i.i in
    let t = in_span (get_or x.lows.now i 0) (get_or x.highs.now i 0) x.x in
    let at : c.if-has.at ≡ pick t i 32 =
    elim c.if-has.branch [
      | then-has w ↦ w.at-is ∙ sym (pick_yes t _ _ (sym c.has.ensures ∙ w.if-has.true))
      | else-has w ↦ w.at-is ∙ sym (pick_no t _ _ (sym c.has.ensures ∙ w.if-has.false))
    ] in
    seeking_turns x.lows.now x.highs.now x.x i _ _ _ c.loop-i-test.true c.loop-i.invariant at (search rules)

pub returns-then-best : goal.returns-then-best
returns-then-best c = seeking_finds _ _ _ _ _ c.loop-i-test.false c.loop-i.invariant c.if-best.true

pub returns-else-best : goal.returns-else-best
returns-else-best c = seeking_misses _ _ _ _ _ c.loop-i-test.false c.loop-i.invariant c.if-best.false
