use Rattle.capi.specs.Names.{lent, word_of}
use Rattle.capi.proofs.Names.{◌∙◌, ap, rules}
use Rattle.capi.proofs.Fetched.{fetched_number}
use Rattle.capi.proofs.nx_fetch.Goals as goal

pub returns : goal.returns
returns c =
    let x = c.args in
    fetched_number (lent x.on.now x.onbase x.ext.now x.extbase) x.address _ _ _ c.place_number.ensures c.locate.ensures
    (c.word_of.ensures ∙ ap word_of c.fetch-part.ensures.bytes)
