use Rattle.crc.specs.Names.{ℕ, bit_xor}
use Rattle.crc.proofs.Names.{ap, ap₂, sym, ◌∙◌, behind, rules}
use Rattle.crc.proofs.Registers.{eight_bytes}
use Rattle.wire.specs.Words.{word_of}
use Rattle.crc.proofs.eight.Goals as goal

pub returns : goal.returns
returns c =
    λ h.
    ap₂ bit_xor (c.four.ensures h ∙ ap (λ (w : ℕ). behind 0 (bit_xor c.args.c w)) c.word_of.ensures)
    (c.four-2.ensures h ∙ ap (behind 4) c.word_of-2.ensures)
    ∙ sym (eight_bytes c.args.c c.args.bytes.now c.fits-bytes (search rules))
