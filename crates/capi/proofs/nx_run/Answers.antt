use Rattle.capi.specs.Names.{run_with, lent, Prices}
use Rattle.capi.proofs.Names.{ap₂, ◌∙◌, Bench, rules}
use Rattle.capi.proofs.nx_run.Goals as goal

pub returns : goal.returns
returns c =
    let x = c.args in
    let m = lent x.on.now x.onbase x.ext.now x.extbase in
    c.run_from.ensures
    ∙ ap₂ (λ (p : Prices) (b : Bench). run_with m p x.onkind x.extkind 0 b x.calls.now x.out.now) c.prices_of-prices.ensures c.fresh.ensures
