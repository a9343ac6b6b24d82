use Rattle.listing.specs.Names.{eqb, ◌-◌, ℕ, multiple}
use Rattle.listing.proofs.Names.{◌∙◌, ap, arith}
use Rattle.page.proofs.Lower.{upper-le, upper-rest}
use Rattle.page.specs.Words.{low_bits}
use Rattle.listing.proofs.line.multiple.Goals as goal

pub overflow_sub-result : goal.overflow_sub-result
overflow_sub-result c = omega (arith, c.page_start.ensures, upper-le (low_bits c.args.k) c.args.x)

pub returns : goal.returns
unfolding multiple
returns c =
    ap (λ (q : ℕ). eqb q 0) (ap (λ (p : ℕ). c.args.x - p) c.page_start.ensures ∙ upper-rest (low_bits c.args.k) c.args.x)
