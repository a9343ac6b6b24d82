use Rattle.crc.specs.Names.{ℕ, ◌/◌, bit_xor}
use Rattle.crc.proofs.Names.{ap, sym, ◌∙◌}
use Rattle.crc.proofs.Rows.{one_byte}
use Rattle.crc.proofs.one.Goals as goal

pub returns : goal.returns
returns c =
    λ h. ap (λ (x : ℕ). bit_xor x (c.args.c / 256)) (c.share.ensures h) ∙ sym (one_byte c.args.c c.args.b c.ranges.b.fits)
