-- Demand 2, the slots after a write of a flush register (01, "Registers").
use Rattle.std.specs.Prelude.{◌/◌, ◌%◌, ◌≡◌}
use Rattle.conduct.specs.Names.{ℕ, Bool, true, not, get_or, ◌and◌, word_valid, word_preserved, word_matches, cam_address, in_range}
use Rattle.conduct.specs.Names.{flush_at, entry_flush_at, write, step, Lent, Bill, Prices, Device}

-- the CAM word of a slot
abbrev pub cam_at : Device → ℕ → ℕ
cam_at d j = get_or d.bank.cam j 0

-- V is kept in exactly the slots that pass a test, and nothing else of the device changes: tags, P and types stay
pub record ValidWhere (test : ℕ → Bool) (before after : Device) : Type 0 where
  pub valid : (j : ℕ) → word_valid (cam_at after j) ≡ (test (cam_at before j) and word_valid (cam_at before j))
  pub above : (j : ℕ) → cam_at after j / 8 ≡ cam_at before j / 8
  pub below : (j : ℕ) → cam_at after j % 4 ≡ cam_at before j % 4
  pub ram : after.bank.ram ≡ before.bank.ram
  pub lock : after.bank.lock ≡ before.bank.lock
  pub victim : after.bank.victim ≡ before.bank.victim
  pub registers : after.registers ≡ before.registers
  pub pending : after.pending ≡ before.pending

-- what a global flush keeps, and what an entry flush keeps
abbrev pub flush_keeps : ℕ → Bool
flush_keeps w = word_preserved w

abbrev pub entry_flush_keeps : Device → ℕ → Bool
entry_flush_keeps d w = not (word_matches w (cam_address d.registers.staged))

-- with bit 0 set a global flush keeps V exactly where P is set, and an entry flush exactly where the slot does not
-- match the CAM address; with bit 0 clear neither changes anything
pub record Flushes (m : Lent) (d : Device) (b : Bill) (p : Prices) (v : ℕ) : Type 0 where
  pub all : in_range d ≡ true → v % 2 ≡ 1 → ValidWhere flush_keeps d (step m d b (write flush_at v p)).device
  pub entry : in_range d ≡ true → v % 2 ≡ 1 → ValidWhere (entry_flush_keeps d) d (step m d b (write entry_flush_at v p)).device
  pub none : v % 2 ≡ 0 → ((step m d b (write flush_at v p)).device ≡ d) × ((step m d b (write entry_flush_at v p)).device ≡ d)

-- so it is for every device, value and memory
abbrev pub FlushExact : Type 0
FlushExact = (m : Lent) (d : Device) (b : Bill) (p : Prices) (v : ℕ) → Flushes m d b p v
