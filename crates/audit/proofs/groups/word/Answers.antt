use Rattle.audit.specs.Names.{ℕ, ◌+◌, ◌-◌, ◌≡◌}
use Rattle.audit.proofs.Names.{◌∙◌, ap, arith}
use Rattle.page.specs.Ground.{take, drop}
use Rattle.wire.specs.Words.{word_of}
use Rattle.audit.proofs.groups.word.Goals as goal

pub returns : goal.returns
returns c =
    let x = c.args in
    c.word_of.ensures ∙ ap (λ (n : ℕ). word_of (take n (drop x.at x.memory.now))) (let e : x.at + 4 - x.at ≡ 4 = omega arith in e)
