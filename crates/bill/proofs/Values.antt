-- The constants of the bill as values. Assumes nothing.
use Rattle.bill.specs.Names.{◌≡◌, false}
use Rattle.bill.proofs.Names.{refl, pos, negsuc, fin, f⅛}
use lib.Count.{count_trailing_zeros}
use lib.Ieee.{of_bits, of_fields, odd}
use Rattle.bill.specs.Figures.{f1}

pub one-is : f1 ≡ fin false 1 (pos 0)
unfolding of_bits of_fields odd count_trailing_zeros
one-is = refl

pub eighth_is : f⅛ ≡ fin false 1 (negsuc 2)
unfolding of_bits of_fields odd count_trailing_zeros
eighth_is = refl
