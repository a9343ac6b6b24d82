use Rattle.wire.specs.Names.{[], ◌∷◌, ◌+◌}
use Rattle.wire.proofs.Names.{refl, sym, ◌∙◌, arith, bytes_of}
use Rattle.wire.proofs.Pastes.{stored, words-pasted}
use Rattle.wire.proofs.put_word.Goals as goal

pub returns : goal.returns
unfolding bytes_of
returns c =
    let x = c.args in
    stored x.out.now c.copy_from_slice.new.self _ x.at (x.at + 4) (omega arith) (c.copy_from_slice.ensures.after ∙ c.to_le_bytes.ensures) refl
    ∙ sym (words-pasted x.out.now x.at (x.w ∷ []))
