-- The sum of two registers, bit by bit: in any order, and taken back by adding again. Assumes nothing.
use Rattle.crc.specs.Names.{ℕ, zero, suc, ◌+◌, ◌*◌, ◌/◌, ◌%◌, ◌<◌, ◌≡◌, bit_xor}
use Rattle.crc.proofs.Names.{◌∙◌, ap, ap₂, refl, sym, arith, xor_comm, xor_mod, xor_self, xor_shr, xor_step, xor_zero_r}
use lib.Arith.{bin_ind}
use lib.Bits.{differ}

-- what holds of either bit
pub on_bit : (P : ℕ → Type 0) → P 0 → P 1 → (x : ℕ) → x < 2 → P x
on_bit P z s zero h = z
on_bit P z s (suc zero) h = s
on_bit P z s (suc (suc x)) h = absurd (omega arith)

-- three bits are added in either order
abbrev Associates : ℕ → ℕ → ℕ → Type 0
Associates x y z = differ (bit_xor x y) z ≡ differ x (bit_xor y z)

bit_assoc : (x y z : ℕ) → x < 2 → y < 2 → z < 2 → Associates x y z
bit_assoc x y z p q r =
    on_bit (λ (x : ℕ). Associates x y z)
    (on_bit (λ (y : ℕ). Associates 0 y z) (on_bit (Associates 0 0) refl refl z r) (on_bit (Associates 0 1) refl refl z r) y q)
    (on_bit (λ (y : ℕ). Associates 1 y z) (on_bit (Associates 1 0) refl refl z r) (on_bit (Associates 1 1) refl refl z r) y q)
    x p

pub xor_assoc : (a b c : ℕ) → bit_xor (bit_xor a b) c ≡ bit_xor a (bit_xor b c)
xor_assoc =
    bin_ind (λ (a : ℕ). (b c : ℕ) → bit_xor (bit_xor a b) c ≡ bit_xor a (bit_xor b c)) (λ b c. refl)
    (λ a ih b c.
    xor_step (bit_xor a b) c
    ∙ ap₂ (λ (x y : ℕ). bit_xor x (c / 2) * 2 + differ y (c % 2)) (xor_shr a b 1) (xor_mod a b 1)
    ∙ ap₂ (λ (x y : ℕ). x * 2 + y) (ih (b / 2) (c / 2)) (bit_assoc (a % 2) (b % 2) (c % 2) (omega arith) (omega arith) (omega arith))
    ∙ sym (ap₂ (λ (x y : ℕ). bit_xor (a / 2) x * 2 + differ (a % 2) y) (xor_shr b c 1) (xor_mod b c 1))
    ∙ sym (xor_step a (bit_xor b c)))

-- two sums, added
pub xor_swap : (a b c d : ℕ) → bit_xor (bit_xor a b) (bit_xor c d) ≡ bit_xor (bit_xor a c) (bit_xor b d)
xor_swap a b c d =
    xor_assoc a b (bit_xor c d)
    ∙ ap (bit_xor a) (sym (xor_assoc b c d) ∙ ap (λ (x : ℕ). bit_xor x d) (xor_comm b c) ∙ xor_assoc c b d)
    ∙ sym (xor_assoc a c (bit_xor b d))

-- what is added twice is gone
pub xor_twice : (a c : ℕ) → bit_xor (bit_xor a c) c ≡ a
xor_twice a c = xor_assoc a c c ∙ ap (bit_xor a) (xor_self c) ∙ xor_zero_r a

pub xor_cancel : (a b c : ℕ) → bit_xor a c ≡ bit_xor b c → a ≡ b
xor_cancel a b c e = sym (xor_twice a c) ∙ ap (λ (x : ℕ). bit_xor x c) e ∙ xor_twice b c

pub xor-none : (a b : ℕ) → bit_xor a b ≡ 0 → a ≡ b
xor-none a b e = xor_cancel a b b (e ∙ sym (xor_self b))
