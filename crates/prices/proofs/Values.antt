-- The ends of a figure's range as values. Assumes nothing.
use Rattle.prices.specs.Names.{◌≡◌}
use Rattle.prices.proofs.Names.{refl, pos, false, fin, f0, f4096}
use lib.Count.{count_trailing_zeros}
use lib.Ieee.{of_bits, of_fields, odd}

pub zero_is : f0 ≡ fin false 0 (pos 0)
unfolding of_bits of_fields odd
zero_is = refl

pub top_is : f4096 ≡ fin false 1 (pos 12)
unfolding of_bits of_fields odd count_trailing_zeros
top_is = refl
