use Rattle.listing.specs.Names.{ℕ, List, [], ◌∷◌, ◌++◌, ◌%◌, get_or}
use Rattle.wire.specs.Words.{word_bytes}
use Rattle.listing.proofs.Names.{record_of, ap, ap₂, ◌∙◌}
use Rattle.listing.proofs.bytes.record_of.Goals as goal

pub returns : goal.returns
unfolding record_of
returns c =
    let m = c.args.m in
    ap₂ (λ (a b : List ℕ). get_or a 0 0 ∷ get_or a 1 0 ∷ get_or a 2 0 ∷ get_or a 3 0 ∷ get_or b 0 0 ∷ get_or b 1 0 ∷ get_or b 2 0 ∷ get_or b 3 0 ∷ c.type_of-kind.result ∷ m.access % 256 ∷ 0 ∷ 0 ∷ [])
    c.to_le_bytes.ensures c.to_le_bytes-2.ensures
    ∙ ap (λ (k : ℕ). word_bytes m.at.0 ++ (word_bytes m.to.0 ++ (k ∷ m.access % 256 ∷ 0 ∷ 0 ∷ []))) c.type_of-kind.ensures
