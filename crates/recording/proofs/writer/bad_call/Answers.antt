use Rattle.recording.specs.Names.{◌≡◌, ◌*◌, true, false, min, is_good, call_at}
use Rattle.recording.specs.Blocks.{most_calls}
use Rattle.recording.proofs.Names.{sym, ◌∙◌, ap, arith, rules, first_bad}
use Rattle.recording.proofs.Firsts.{first_on, first_here, first-none, first-start}
use Rattle.recording.proofs.writer.bad_call.Goals as goal

pub loop-i-init : goal.loop-i-init
loop-i-init c = first-start _ _

pub returns-then-not-is_good : goal.returns-then-not-is_good
returns-then-not-is_good c =
    let l = c.args.calls.now in
    let g : is_good (call_at l (12 * c.loop-i.i)) ≡ false = search rules in
    sym (sym (ap (first_bad l 0) c.min-most.ensures) ∙ c.loop-i.invariant ∙ first_here l _ c.loop-i.i c.loop-i-test.true g)

pub loop-i-preserved : goal.loop-i-preserved
loop-i-preserved c =
    let l = c.args.calls.now in
    let g : is_good (call_at l (12 * c.loop-i.i)) ≡ true = search rules in
    c.loop-i.invariant ∙ first_on l _ c.loop-i.i c.loop-i-test.true g

pub returns : goal.returns
returns c =
    let l = c.args.calls.now in
    let n = c.min-most.result in
    let i = c.loop-i.i in
    sym (sym (ap (first_bad l 0) c.min-most.ensures) ∙ c.loop-i.invariant ∙ first-none l n i (omega arith) c.loop-i-test.false ∙ (let e : i ≡ n = omega arith in e))
