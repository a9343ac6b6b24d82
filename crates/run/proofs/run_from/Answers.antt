use Rattle.run.proofs.Names.{sym, ◌∙◌, not-true, not-false, rules}
use Rattle.run.proofs.Room.{run-good, run_fits}
use Rattle.run.specs.Run.{run_with}
use Rattle.page.proofs.Picks.{pick_yes, pick_no}
use Rattle.run.proofs.run_from.Goals as goal

pub returns-then-not-may_run : goal.returns-then-not-may_run
unfolding run_with
returns-then-not-may_run c = sym (pick_no _ _ _ (sym c.may_run.ensures ∙ not-true _ c.if-not-may_run.true-raw))

pub run_all-requires : goal.run_all-requires
run_all-requires c =
    let x = c.args in let e = sym c.may_run.ensures ∙ not-false _ c.if-not-may_run.false-raw in
    record { good = run-good x.calls.now x.priced.onkind x.priced.extkind _ e; room = run_fits x.calls.now x.priced.onkind x.priced.extkind _ e }

pub returns : goal.returns
unfolding run_with
returns c =
    c.run_all.ensures ∙ sym (pick_yes _ _ _ (sym c.may_run.ensures ∙ not-false _ c.if-not-may_run.false-raw))
