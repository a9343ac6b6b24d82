-- The offsets: 21 registers and no other. Assumes nothing.
use Rattle.std.proofs.Common.{Option}
use Rattle.registers.specs.Names.{◌≡◌, Bool, true, false, not, List, [], ◌∷◌, ℕ, ◌*◌, ◌%◌, eqb, leb, pick, ◌and◌, Stall, Registers, Answer}
use Rattle.registers.specs.Names.{Tending, Command}
use Rattle.registers.proofs.Names.{refl, sym, ap, ◌∙◌, subst, ◌<◌, arith, eqb-true, not-true, not-false, pick_by, and_left, and_right, listed}
use Rattle.registers.proofs.Names.{control_command, lock_command, load_command, when_bit, command_of, value_at}
use mathlib.Core.Bool.{true≢false}
use Prim.Native.Nat.{zero, suc, ◌≤◌}
use borrow.Author.Tests.{eqb-false, leb-true}
use Rattle.page.proofs.Picks.{pick_no}
use Rattle.registers.specs.Answers.{answer_number}
use Rattle.registers.specs.Table.{no_register}

-- the table's answer at an offset that is known
pub command_at : (o k v : ℕ) → o ≡ k → command_of k v ≡ command_of o v
command_at o k v e = sym (ap (λ (x : ℕ). command_of x v) e)

-- what holds of each of the first n multiples of 4
abbrev pub Each : (ℕ → Type 0) → ℕ → Type 0
Each P zero = Unit {0}
Each P (suc n) = Each P n × P (4 * n)

at_or-not : (P : ℕ → Type 0) (o k : ℕ) → P k → ((o ≡ k → ⊥) → P o) → P o
at_or-not P o k p q = by (eqb o k) refl
  where
    by : (t : Bool) → eqb o k ≡ t → P o
    by true e = subst P (sym (eqb-true _ _ e)) p
    by false e = q (eqb-false o k e)

each_at : (P : ℕ → Type 0) (n o : ℕ) → o % 4 ≡ 0 → o < 4 * n → Each P n → P o
each_at P zero o m h e = absurd (omega arith)
each_at P (suc n) o m h e = at_or-not P o (4 * n) e.1 (λ d. each_at P n o m (omega (arith, m, h, d)) e.0)

register_at : (P : ℕ → Type 0) → Each P 21 → (o : ℕ) → no_register o ≡ false → P o
unfolding no_register
register_at P e o h =
    let g = not-false (eqb (o % 4) 0 and leb o 0x50) h in
    let m : o % 4 ≡ 0 = eqb-true _ _ (and_left (eqb (o % 4) 0) (leb o 0x50) g) in
    let l : o ≤ 0x50 = leb-true _ _ (and_right (eqb (o % 4) 0) (leb o 0x50) g) in
    each_at P 21 o m (omega (arith, l)) e

-- an offset that is none of the 21 is no register
pub none-is-no_register : (o : ℕ) → Each (λ (k : ℕ). o ≡ k → ⊥) 21 → no_register o ≡ true
none-is-no_register o e = by (no_register o) refl
  where
    by : (t : Bool) → no_register o ≡ t → no_register o ≡ true
    by true q = q
    by false q = absurd (register_at (λ (k : ℕ). o ≡ k → ⊥) e o q refl)

-- what holds at the 21 registers and wherever there is none holds at every offset
module _ (P : ℕ → Type 0) where
  pub by_each : Each P 21 → ((o : ℕ) → no_register o ≡ true → P o) → (o : ℕ) → P o
  by_each e other o = by (no_register o) refl
    where
      by : (t : Bool) → no_register o ≡ t → P o
      by true q = other o q
      by false q = register_at P e o q

  pub by_offset :
      P 0x00 → P 0x04 → P 0x08 → P 0x0c → P 0x10 → P 0x14 → P 0x18 → P 0x1c → P 0x20 → P 0x24 → P 0x28
      → P 0x2c → P 0x30 → P 0x34 → P 0x38 → P 0x3c → P 0x40 → P 0x44 → P 0x48 → P 0x4c → P 0x50
      → ((o : ℕ) → no_register o ≡ true → P o)
      → (o : ℕ) → P o
  by_offset a b c d e f g h i j k l m n p q r s t u v =
      by_each (((((((((((((((((((((tt, a), b), c), d), e), f), g), h), i), j), k), l), m), n), p), q), r), s), t), u), v)

-- a table of registers says nothing of an offset that is none
abbrev registers_only : {A : Type 0} → List (ℕ × A) → Bool
registers_only [] = true
registers_only (row ∷ rows) = not (no_register row.0) and registers_only rows

listed_other : {A : Type 0} (rows : List (ℕ × A)) (other : A) (o : ℕ) → registers_only rows ≡ true → no_register o ≡ true → listed rows other o ≡ other
unfolding listed
listed_other [] other o h g = refl
listed_other (row ∷ rows) other o h g =
    pick_no _ _ _ (by (eqb o row.0) refl) ∙ listed_other rows other o (and_right (not (no_register row.0)) (registers_only rows) h) g
  where
    by : (t : Bool) → eqb o row.0 ≡ t → eqb o row.0 ≡ false
    by false q = q
    by true q =
        absurd (true≢false (sym g ∙ ap no_register (eqb-true _ _ q) ∙ not-true (no_register row.0) (and_left (not (no_register row.0)) (registers_only rows) h)))

pub command_elsewhere : (o v : ℕ) → no_register o ≡ true → command_of o v ≡ Command.Refused 5
unfolding command_of no_register ◌and◌
command_elsewhere o v h = listed_other _ (Command.Refused 5) o refl h

pub value_elsewhere : (o : ℕ) (r : Registers) (lock victim : ℕ) (p : Option Stall) → no_register o ≡ true → value_at o r lock victim p ≡ Answer.Refused 5
unfolding value_at no_register ◌and◌
value_elsewhere o r lock victim p h = listed_other _ (Answer.Refused 5) o refl h

-- and 5 is answered nowhere else
abbrev pub is_five : Command → Bool
is_five (Command.Refused k) = eqb k 5
is_five Command.Nothing = false
is_five Command.Reset = false
is_five (Command.Set s) = false
is_five (Command.Tend t) = false
is_five Command.Load = false
is_five Command.Copy = false
is_five (Command.Prefetch v) = false
is_five (Command.Acknowledge t) = false

abbrev NotFive : Command → Type 0
NotFive c = is_five c ≡ false

control-not_five : (v : ℕ) → NotFive (control_command v)
unfolding control_command
control-not_five v = pick_by NotFive _ _ _ (λ _. refl) (λ _. refl)

lock-not_five : (v : ℕ) → NotFive (lock_command v)
unfolding lock_command
lock-not_five v = pick_by NotFive _ _ _ (λ _. refl) (λ _. refl)

load-not_five : (v : ℕ) → NotFive (load_command v)
unfolding load_command
load-not_five v = pick_by NotFive _ _ _ (λ _. refl) (λ _. pick_by NotFive _ _ _ (λ _. refl) (λ _. pick_by NotFive _ _ _ (λ _. refl) (λ _. refl)))

bit-not_five : (v : ℕ) (t : Tending) → NotFive (when_bit v t)
unfolding when_bit
bit-not_five v t = pick_by NotFive _ _ _ (λ _. refl) (λ _. refl)

pub command_five : (v o : ℕ) → is_five (command_of o v) ≡ no_register o
unfolding command_of listed pick no_register ◌and◌
command_five v =
    by_offset (λ (o : ℕ). is_five (command_of o v) ≡ no_register o)
    refl
    refl
    (control-not_five v)
    refl
    refl
    refl
    refl
    refl
    refl
    (lock-not_five v)
    (load-not_five v)
    refl
    refl
    refl
    refl
    (bit-not_five v Tending.Flush)
    (bit-not_five v Tending.FlushEntry)
    refl
    refl
    refl
    refl
    (λ o h. ap is_five (command_elsewhere o v h) ∙ sym h)

pub value_five : (r : Registers) (lock victim : ℕ) (p : Option Stall) (o : ℕ) → eqb (answer_number (value_at o r lock victim p)) 5 ≡ no_register o
unfolding value_at listed pick no_register ◌and◌
value_five r lock victim p =
    by_offset (λ (o : ℕ). eqb (answer_number (value_at o r lock victim p)) 5 ≡ no_register o)
    refl refl refl refl refl refl refl refl refl refl refl refl refl refl refl refl refl refl refl refl refl
    (λ o h. ap (λ (a : Answer). eqb (answer_number a) 5) (value_elsewhere o r lock victim p h) ∙ sym h)
