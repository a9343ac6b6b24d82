-- A byte that is changed changes the check: no two registers meet behind the same bytes. Assumes nothing.
use Rattle.crc.specs.Names.{ℕ, suc, ◌^◌, ◌<◌, ◌≡◌, List, [], ◌∷◌, ◌++◌, bit_xor, Bytes}
use Rattle.crc.specs.Statements.{OneByteCaught}
use Rattle.crc.proofs.Names.{◌∙◌, arith, xor_comm, xor_lt, byte_step, crc32, crc_from, ones}
use Rattle.crc.proofs.Xors.{xor_cancel}
use Rattle.crc.proofs.Steps.{steps_inj}
use Rattle.crc.proofs.Registers.{byte-lt}

byte_inj : (a b x y : ℕ) → a < 2 ^ 32 → b < 2 ^ 32 → x < 256 → y < 256 → byte_step a x ≡ byte_step b y → bit_xor a x ≡ bit_xor b y
unfolding byte_step
byte_inj a b x y p q r s e = steps_inj 8 (bit_xor a x) (bit_xor b y) (xor_lt 32 a x p (omega arith)) (xor_lt 32 b y q (omega arith)) e

pub crc_from_inj : (l : List ℕ) (a b : ℕ) → a < 2 ^ 32 → b < 2 ^ 32 → Bytes l → crc_from a l ≡ crc_from b l → a ≡ b
unfolding crc_from
crc_from_inj [] a b p q h e = e
crc_from_inj (x ∷ l) a b p q h e =
    xor_cancel a b x
    (byte_inj a b x x p q (h 0) (h 0)
    (crc_from_inj l (byte_step a x) (byte_step b x) (byte-lt a x p (h 0)) (byte-lt b x q (h 0)) (λ i. h (suc i)) e))

caught_from : (c : ℕ) (p s : List ℕ) (x y : ℕ) → c < 2 ^ 32 → Bytes (p ++ (x ∷ s)) → Bytes (p ++ (y ∷ s)) → crc_from c (p ++ (x ∷ s)) ≡ crc_from c (p ++ (y ∷ s)) → x ≡ y
unfolding crc_from
caught_from c [] s x y h f g e =
    xor_cancel x y c
    (xor_comm x c
    ∙ byte_inj c c x y h h (f 0) (g 0)
    (crc_from_inj s (byte_step c x) (byte_step c y) (byte-lt c x h (f 0)) (byte-lt c y h (g 0)) (λ i. f (suc i)) e)
    ∙ xor_comm c y)
caught_from c (b ∷ p) s x y h f g e = caught_from (byte_step c b) p s x y (byte-lt c b h (f 0)) (λ i. f (suc i)) (λ i. g (suc i)) e

pub one-byte_caught : OneByteCaught
unfolding crc32
one-byte_caught p s x y f g e = caught_from ones p s x y (omega arith) f g (xor_cancel (crc_from ones (p ++ (x ∷ s))) (crc_from ones (p ++ (y ∷ s))) ones e)
