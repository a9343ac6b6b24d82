use Rattle.capi.specs.Names.{run_with, lent, Prices, prices_of, Ran, ℕ}
use Rattle.capi.proofs.Names.{ap₂, ◌∙◌, ap, Bench, rules}
use Rattle.capi.proofs.From.{from_run}
use Rattle.capi.proofs.nx_from.Goals as goal

pub returns : goal.returns
returns c =
    let x = c.args in
    let m = lent x.on.now x.onbase x.ext.now x.extbase in
    let f : Prices → ℕ → Bench → Ran = λ (p : Prices) (h : ℕ) (b : Bench). run_with m p x.onkind x.extkind h b x.calls.now x.out.now in
    c.run_from.ensures
    ∙ ap (λ (p : Prices). f p c.lock_at.result c.bench_at.result) c.prices_of-prices.ensures
    ∙ ap₂ (f (prices_of x.onkind x.ona x.onb x.extkind x.exta x.extb)) c.lock_at.ensures c.bench_at.ensures
    ∙ from_run m _ x.onkind x.extkind x.state.now x.total x.misses x.calls.now x.out.now (search rules)
