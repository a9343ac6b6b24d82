use Rattle.listing.proofs.Names.{arith}
use Rattle.listing.proofs.Digits.{digit_09, digit_AF, digit_af, digit_none}
use Rattle.listing.proofs.hex.digit.Goals as goal

pub returns-in-48-to-57 : goal.returns-in-48-to-57
returns-in-48-to-57 c = digit_09 _ (omega arith) (omega arith)

pub returns-in-65-to-70 : goal.returns-in-65-to-70
returns-in-65-to-70 c = digit_AF _ (omega arith) (omega arith)

pub returns-in-97-to-102 : goal.returns-in-97-to-102
returns-in-97-to-102 c = digit_af _ (omega arith) (omega arith)

pub returns-in_default : goal.returns-in_default
returns-in_default c = digit_none _ (λ p q. omega arith) (λ p q. omega arith) (λ p q. omega arith)

pub returns-in_default-2 : goal.returns-in_default-2
returns-in_default-2 c = digit_none _ (λ p q. omega arith) (λ p q. omega arith) (λ p q. omega arith)

pub returns-in_default-3 : goal.returns-in_default-3
returns-in_default-3 c = digit_none _ (λ p q. omega arith) (λ p q. omega arith) (λ p q. omega arith)

pub returns-in_default-4 : goal.returns-in_default-4
returns-in_default-4 c = digit_none _ (λ p q. omega arith) (λ p q. omega arith) (λ p q. omega arith)
