use Rattle.listing.specs.Names.{Class, ◌-◌, length, take, drop}
use Rattle.listing.proofs.Names.{◌∙◌, arith}
use Rattle.listing.proofs.Runs.{run_fits, first_word, behind_word}
use Rattle.listing.proofs.tokens.word.Goals as goal

pub slice_bounds-s-count : goal.slice_bounds-s-count
slice_bounds-s-count c = omega (arith, c.run-from.ensures, run_fits Class.Blank c.args.line.now)

pub slice_bounds-s-start : goal.slice_bounds-s-start
slice_bounds-s-start c = omega (arith, c.run-from.ensures, run_fits Class.Blank c.args.line.now)

pub split_at-requires : goal.split_at-requires
split_at-requires c = omega (arith, c.run.ensures, run_fits Class.Solid (take (length c.args.line.now - c.run-from.result) (drop c.run-from.result c.args.line.now)))

pub returns-clause-first : goal.returns-clause-first
returns-clause-first c = c.split_at.ensures.front ∙ first_word c.args.line.now _ _ c.run-from.ensures c.run.ensures

pub returns-clause-behind : goal.returns-clause-behind
returns-clause-behind c = c.split_at.ensures.back ∙ behind_word c.args.line.now _ _ c.run-from.ensures c.run.ensures
