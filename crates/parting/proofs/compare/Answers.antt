use Rattle.parting.proofs.Names.{sym, ◌∙◌, arith}
use Rattle.parting.proofs.Owners.{refused-is, in_new, word_in, parted-is}
use Rattle.parting.proofs.compare.Goals as goal

pub returns-then-not-whole_words : goal.returns-then-not-whole_words
returns-then-not-whole_words c =
    let x = c.args in
    refused-is x.new.now x.signed.now (sym c.whole_words.ensures ∙ c.if-not-whole_words.true)

pub overflow_mul-w : goal.overflow_mul-w
overflow_mul-w c =
    let x = c.args in
    omega (arith, in_new x.new.now x.signed.now _ _ c.common.ensures c.first_differing-w.ensures)

pub overflow_mul-result : goal.overflow_mul-result
overflow_mul-result c =
    let x = c.args in
    omega (arith, in_new x.new.now x.signed.now _ _ c.common.ensures c.first_differing-w.ensures)

pub differing-requires : goal.differing-requires
differing-requires c =
    let x = c.args in
    let e = c.common.ensures in word_in x.new.now x.signed.now _ _ e c.first_differing-w.ensures

pub returns : goal.returns
returns c =
    let x = c.args in
    parted-is x.new.now x.signed.now _ _ c.common.ensures c.first_differing-w.ensures _ _
    (sym c.whole_words.ensures ∙ c.if-not-whole_words.false)
    c.owner_at.ensures c.differing.ensures
