use Rattle.records.specs.Names.{take, drop, ℕ, ◌+◌, ◌≡◌, word_of}
use Rattle.records.proofs.Names.{◌-◌, ◌∙◌, ap, arith}
use Rattle.records.proofs.word_at.Goals as goal

pub returns : goal.returns
returns c =
    c.word_of.ensures ∙ ap (λ (n : ℕ). word_of (take n (drop c.args.i c.args.r.now))) (let e : c.args.i + 4 - c.args.i ≡ 4 = omega arith in e)
