use Rattle.wire.specs.Names.{◌≡◌, ℕ, ◌+◌, ◌*◌, ◌/◌, ◌%◌, ◌^◌, ◌<◌}
use Rattle.wire.proofs.Names.{◌∙◌, ap, arith}
use lib.Bits.{bit_or, or_shifted}
use Rattle.wire.specs.Words.{swapped}
use Rattle.wire.proofs.swapped.Goals as goal

halves_swapped : (w : ℕ) → w < 2 ^ 32 → bit_or (w * 65536 % 2 ^ 32) (w / 65536) ≡ swapped w
halves_swapped w h =
    let low : w * 65536 % 2 ^ 32 ≡ w % 65536 * 2 ^ 16 = omega arith in
    ap (λ (x : ℕ). bit_or x (w / 65536)) low ∙ or_shifted (w % 65536) 16 (w / 65536) (omega arith) ∙ omega arith

pub returns : goal.returns
returns c = c.rotate_left.ensures ∙ halves_swapped c.args.w (omega arith)
