use Rattle.parting.specs.Names.{ℕ, List, ◌+◌, ◌-◌, ◌*◌, ◌≡◌, not, eqb, take, drop}
use Rattle.parting.proofs.Names.{◌∙◌, ap, ap₂, arith}
use Rattle.wire.specs.Words.{word_of}
use Rattle.parting.proofs.words.Common.differs_at.Goals as goal

pub returns : goal.returns
returns c =
    let k = c.args.k in
    let x = c.args.self.now in
    let z : 4 * k + 4 - 4 * k ≡ 4 = omega arith in
    let four : (l : List ℕ) → word_of (take (4 * k + 4 - 4 * k) (drop (4 * k) l)) ≡ word_of (take 4 (drop (4 * k) l)) =
    λ (l : List ℕ). ap (λ (n : ℕ). word_of (take n (drop (4 * k) l))) z in
    ap₂ (λ (v w : ℕ). not (eqb v w)) (c.word_of.ensures ∙ four x.new.now) (c.word_of-2.ensures ∙ four x.signed.now)
