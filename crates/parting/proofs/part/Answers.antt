use Rattle.parting.specs.Names.{Owner}
use Rattle.parting.proofs.Names.{sym, ◌∙◌, arith}
use Rattle.parting.proofs.Owners.{part_is, part_good, owner_refused, start-refused, in_new, in_signed}
use Rattle.parting.proofs.part.Goals as goal

pub returns-then-not-whole_words : goal.returns-then-not-whole_words
returns-then-not-whole_words c =
    let x = c.args in
    let h = sym c.whole_words.ensures ∙ c.if-not-whole_words.true in
    let p = part_is x.new x.signed Owner.New _ (owner_refused x.new.now x.signed.now h) (start-refused x.new.now x.signed.now h) in
    record { bytes = c.rest.ensures.bytes ∙ p.0; source = c.rest.ensures.source ∙ p.1 }

pub overflow_mul-k : goal.overflow_mul-k
overflow_mul-k c =
    let x = c.args in
    omega (arith, in_new x.new.now x.signed.now _ _ c.common.ensures c.first_differing-k.ensures)

pub rest-requires-in-New : goal.rest-requires-in-New
rest-requires-in-New c =
    let x = c.args in
    in_new x.new.now x.signed.now _ _ c.common.ensures c.first_differing-k.ensures

pub rest-requires-in-Signed : goal.rest-requires-in-Signed
rest-requires-in-Signed c =
    let x = c.args in
    in_signed x.new.now x.signed.now _ _ c.common.ensures c.first_differing-k.ensures

pub returns-in-New : goal.returns-in-New
returns-in-New c =
    let x = c.args in
    let p = part_good x.new x.signed _ _ c.common.ensures c.first_differing-k.ensures
    (sym c.whole_words.ensures ∙ c.if-not-whole_words.false) Owner.New (sym c.in-New.is ∙ c.owner_at.ensures) in
    record { bytes = c.rest-in-New.ensures.bytes ∙ p.0; source = c.rest-in-New.ensures.source ∙ p.1 }

pub returns-in-Signed : goal.returns-in-Signed
returns-in-Signed c =
    let x = c.args in
    let p = part_good x.new x.signed _ _ c.common.ensures c.first_differing-k.ensures
    (sym c.whole_words.ensures ∙ c.if-not-whole_words.false) Owner.Signed (sym c.in-Signed.is ∙ c.owner_at.ensures) in
    record { bytes = c.rest-in-Signed.ensures.bytes ∙ p.0; source = c.rest-in-Signed.ensures.source ∙ p.1 }
