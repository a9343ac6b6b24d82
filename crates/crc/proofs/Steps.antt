-- A register behind a number of bits: of a sum it is the sum, zeros are shifted out, and no two registers meet. Assumes nothing.
use Rattle.crc.specs.Names.{ℕ, zero, suc, ◌+◌, ◌*◌, ◌/◌, ◌%◌, ◌^◌, ◌<◌, ◌≡◌, bit_xor, eqb}
use Rattle.crc.proofs.Names.{◌∙◌, ap, ap₂, refl, sym, arith, eqb-false, eqb-true, pick_by, bit_step, bit_steps, polynomial}
use Rattle.crc.proofs.Names.{xor_comm, xor_lt, xor_mod, xor_self, xor_shifted, xor_shr, xor_zero_r}
use Rattle.crc.proofs.Xors.{on_bit, xor-none, xor_swap}
use lib.Bits.{shifted_even, shifted_half}
use lib.Pow.{split, pow_pos}
use native.Mathlib.Nat.{add-suc, add-zero, mod-lt}

-- what a bit adds that is shifted out
abbrev added : ℕ → ℕ
added zero = 0
added (suc b) = polynomial

added-xor : (x y : ℕ) → x < 2 → y < 2 → added (bit_xor x y) ≡ bit_xor (added x) (added y)
added-xor x y p q =
    on_bit (λ (x : ℕ). added (bit_xor x y) ≡ bit_xor (added x) (added y)) refl
    (on_bit (λ (y : ℕ). added (bit_xor 1 y) ≡ bit_xor (added 1) (added y)) refl refl y q)
    x p

-- a bit, with no choice
step_is : (c : ℕ) → bit_step c ≡ bit_xor (c / 2) (added (c % 2))
unfolding bit_step
step_is c =
    pick_by (λ (r : ℕ). r ≡ bit_xor (c / 2) (added (c % 2))) (eqb (c % 2) 0) (c / 2) (bit_xor (c / 2) polynomial)
    (λ e. sym (ap (λ (b : ℕ). bit_xor (c / 2) (added b)) (eqb-true (c % 2) 0 e) ∙ xor_zero_r (c / 2)))
    (λ e. ap (λ (b : ℕ). bit_xor (c / 2) (added b)) (let z : 1 ≡ c % 2 = omega (arith, eqb-false (c % 2) 0 e) in z))

-- a bit of a sum
step-xor : (a b : ℕ) → bit_step (bit_xor a b) ≡ bit_xor (bit_step a) (bit_step b)
step-xor a b =
    step_is (bit_xor a b)
    ∙ ap₂ (λ (x y : ℕ). bit_xor x (added y)) (xor_shr a b 1) (xor_mod a b 1)
    ∙ ap (bit_xor (bit_xor (a / 2) (b / 2))) (added-xor (a % 2) (b % 2) (omega arith) (omega arith))
    ∙ xor_swap (a / 2) (b / 2) (added (a % 2)) (added (b % 2))
    ∙ sym (ap₂ bit_xor (step_is a) (step_is b))

-- a register keeps its 32 bits
step-lt : (c : ℕ) → c < 2 ^ 32 → bit_step c < 2 ^ 32
unfolding bit_step
step-lt c h =
    pick_by (λ (r : ℕ). r < 2 ^ 32) (eqb (c % 2) 0) (c / 2) (bit_xor (c / 2) polynomial)
    (λ _. omega arith) (λ _. xor_lt 32 (c / 2) polynomial (omega arith) (omega arith))

-- the polynomial has the highest bit, and a register that was shifted has not
step-none : (c : ℕ) → c < 2 ^ 32 → bit_step c ≡ 0 → c ≡ 0
unfolding bit_step
step-none c h =
    pick_by (λ (r : ℕ). r ≡ 0 → c ≡ 0) (eqb (c % 2) 0) (c / 2) (bit_xor (c / 2) polynomial)
    (λ e z. omega (arith, eqb-true (c % 2) 0 e)) (λ _ z. absurd (omega (arith, xor-none (c / 2) polynomial z)))

-- no two registers meet
step_inj : (a b : ℕ) → a < 2 ^ 32 → b < 2 ^ 32 → bit_step a ≡ bit_step b → a ≡ b
step_inj a b p q e =
    xor-none a b
    (step-none (bit_xor a b) (xor_lt 32 a b p q) (step-xor a b ∙ ap (λ (x : ℕ). bit_xor x (bit_step b)) e ∙ xor_self (bit_step b)))

-- the same of a number of bits
pub steps_xor : (n a b : ℕ) → bit_steps n (bit_xor a b) ≡ bit_xor (bit_steps n a) (bit_steps n b)
unfolding bit_steps
steps_xor zero a b = refl
steps_xor (suc n) a b = ap (bit_steps n) (step-xor a b) ∙ steps_xor n (bit_step a) (bit_step b)

pub steps_add : (m n c : ℕ) → bit_steps (m + n) c ≡ bit_steps m (bit_steps n c)
unfolding bit_steps
steps_add m zero c = ap (λ (k : ℕ). bit_steps k c) (add-zero m)
steps_add m (suc n) c = ap (λ (k : ℕ). bit_steps k c) (add-suc m n) ∙ steps_add m n (bit_step c)

pub steps_lt : (n c : ℕ) → c < 2 ^ 32 → bit_steps n c < 2 ^ 32
unfolding bit_steps
steps_lt zero c h = h
steps_lt (suc n) c h = steps_lt n (bit_step c) (step-lt c h)

pub steps_inj : (n a b : ℕ) → a < 2 ^ 32 → b < 2 ^ 32 → bit_steps n a ≡ bit_steps n b → a ≡ b
unfolding bit_steps
steps_inj zero a b p q e = e
steps_inj (suc n) a b p q e = step_inj a b p q (steps_inj n (bit_step a) (bit_step b) (step-lt a p) (step-lt b q) e)

-- zeros are shifted out
pub steps_shift : (n a : ℕ) → bit_steps n (a * 2 ^ n) ≡ a
unfolding bit_steps
steps_shift zero a = omega arith
steps_shift (suc n) a =
    ap (bit_steps n) (step_is (a * 2 ^ suc n) ∙ ap₂ (λ (x y : ℕ). bit_xor x (added y)) (shifted_half a n) (shifted_even a n) ∙ xor_zero_r (a * 2 ^ n))
    ∙ steps_shift n a

-- the lowest n bits, and those above them, which are shifted down
pub steps_low : (m n c : ℕ) → bit_steps (m + n) c ≡ bit_xor (bit_steps (m + n) (c % 2 ^ n)) (bit_steps m (c / 2 ^ n))
steps_low m n c =
    ap (bit_steps (m + n)) (sym (split c n) ∙ sym (xor_shifted (c / 2 ^ n) n (c % 2 ^ n) (mod-lt c (pow_pos n))))
    ∙ steps_xor (m + n) (c / 2 ^ n * 2 ^ n) (c % 2 ^ n)
    ∙ xor_comm (bit_steps (m + n) (c / 2 ^ n * 2 ^ n)) (bit_steps (m + n) (c % 2 ^ n))
    ∙ ap (bit_xor (bit_steps (m + n) (c % 2 ^ n))) (steps_add m n (c / 2 ^ n * 2 ^ n) ∙ ap (bit_steps m) (steps_shift n (c / 2 ^ n)))
