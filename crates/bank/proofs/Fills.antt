-- A fill changes exactly one slot, at the lock base or above it. Assumes nothing.
use Rattle.bank.specs.Names.{◌≡◌, ℕ, ◌<◌, length, Words, Bank}
use Rattle.bank.proofs.Names.{refl, ap₂, ◌≤◌, arith, get_or-set_other, get_or-set_same, ltb-true, pick_by, next_slot, next_victim, stored_at, filled}
use mathlib.Core.Logic.{◌≢◌}
use native.Mathlib.Nat.{le_refl}
use borrow.Author.Tests.{ltb-false}
use Rattle.bank.specs.Slots.{slot_at}

abbrev words : ℕ → ℕ → Words
words x y = record { cam = x; ram = y }

-- the slot that a fill takes is not below the lock base, nor below the victim
pub next_slot-ge : (victim lock : ℕ) → lock ≤ next_slot victim lock
unfolding next_slot
next_slot-ge victim lock = pick_by (λ (x : ℕ). lock ≤ x) _ _ _ (λ _. le_refl lock) (λ e. ltb-false victim lock e)

pub next_slot-victim : (victim lock : ℕ) → victim ≤ next_slot victim lock
unfolding next_slot
next_slot-victim victim lock =
    pick_by (λ (x : ℕ). victim ≤ x) _ _ _ (λ e. omega (arith, ltb-true victim lock e)) (λ _. le_refl victim)

-- neither is the next victim
pub next_victim-ge : (slot lock : ℕ) → lock ≤ slot → lock ≤ next_victim slot lock
unfolding next_victim
next_victim-ge slot lock h = pick_by (λ (x : ℕ). lock ≤ x) _ _ _ (λ _. omega arith) (λ _. le_refl lock)

module _ (b : Bank) (w : Words) where
  -- every other slot stays, in both lanes
  pub stored_keeps : (i j : ℕ) → j ≢ i → slot_at (stored_at b i w) j ≡ slot_at b j
  stored_keeps i j n = ap₂ words (get_or-set_other b.cam i j w.cam 0 n) (get_or-set_other b.ram i j w.ram 0 n)

  pub stored_has : (i : ℕ) → i < length b.cam → i < length b.ram → slot_at (stored_at b i w) i ≡ w
  stored_has i hc hr = ap₂ words (get_or-set_same b.cam i w.cam 0 hc) (get_or-set_same b.ram i w.ram 0 hr)

  pub fill_keeps : (j : ℕ) → j ≢ next_slot b.victim b.lock → slot_at (filled b w) j ≡ slot_at b j
  unfolding filled
  fill_keeps j n = stored_keeps (next_slot b.victim b.lock) j n

  pub fill_has : next_slot b.victim b.lock < length b.cam → next_slot b.victim b.lock < length b.ram → slot_at (filled b w) (next_slot b.victim b.lock) ≡ w
  unfolding filled
  fill_has hc hr = stored_has (next_slot b.victim b.lock) hc hr

  -- no slot below the lock base is touched
  pub fill_keeps_locked : (j : ℕ) → j < b.lock → slot_at (filled b w) j ≡ slot_at b j
  fill_keeps_locked j h = fill_keeps j (λ q. omega (arith, q, h, next_slot-ge b.victim b.lock))

  pub fill_lock : (filled b w).lock ≡ b.lock
  unfolding filled
  fill_lock = refl

  pub fill_victim : (filled b w).victim ≡ next_victim (next_slot b.victim b.lock) b.lock
  unfolding filled
  fill_victim = refl
