-- Demand 2, what each call leaves alone (01, "The unit", "Registers").
use Rattle.std.specs.Prelude.{◌/◌, ◌%◌, ◌^◌, ◌<◌, ◌≡◌, ◌≢◌}
use Rattle.conduct.specs.Names.{ℕ, Bool, false, eqb, ◌and◌, prefetch_at, control_at, base_high_at, base_low_at, lock_at}
use Rattle.conduct.specs.Names.{load_at, cam_high_at, cam_low_at, ram_high_at, ram_low_at, flush_at, entry_flush_at, may_walk, request, write, read}
use Rattle.conduct.specs.Names.{drop-fault, shift, step, Access, VirtualAddress, Lent, Bill, Prices, Device}

-- a write of control with bit 0 clear
abbrev pub is_reset : ℕ → ℕ → Bool
is_reset o v = eqb o control_at and eqb (v % 2) 0

-- each part of a device is changed by a write of its own register alone
pub record WriteKeeps (o : ℕ) (before after : Device) : Type 0 where
  pub control : o ≢ control_at → after.registers.control ≡ before.registers.control
  pub base_high : o ≢ base_high_at → after.registers.base.0 / 65536 ≡ before.registers.base.0 / 65536
  pub base_low : o ≢ base_low_at → after.registers.base.0 % 65536 ≡ before.registers.base.0 % 65536
  pub prefetch : o ≢ prefetch_at → after.registers.prefetch ≡ before.registers.prefetch
  pub cam_high : o ≢ cam_high_at → after.registers.staged.camhi ≡ before.registers.staged.camhi
  pub cam_low : o ≢ cam_low_at → after.registers.staged.camlo ≡ before.registers.staged.camlo
  pub ram_high : o ≢ ram_high_at → after.registers.staged.ramhi ≡ before.registers.staged.ramhi
  pub ram_low : o ≢ ram_low_at → after.registers.staged.ramlo ≡ before.registers.staged.ramlo
  pub copied : o ≢ load_at → after.registers.copied ≡ before.registers.copied
  pub cam : may_walk o ≡ false → o ≢ load_at → o ≢ flush_at → o ≢ entry_flush_at → after.bank.cam ≡ before.bank.cam
  pub ram : may_walk o ≡ false → o ≢ load_at → after.bank.ram ≡ before.bank.ram
  pub lock : o ≢ lock_at → after.bank.lock ≡ before.bank.lock
  pub victim : may_walk o ≡ false → o ≢ lock_at → after.bank.victim ≡ before.bank.victim
  pub pending : may_walk o ≡ false → after.pending ≡ before.pending

-- a request leaves every register and the lock base, a write that is no reset all but its own part, a drop all but
-- the fault, and a read and a shift report everything
pub record LeavesAlone (m : Lent) (d : Device) (b : Bill) : Type 0 where
  pub request :
      (va : VirtualAddress) (a : Access) (p : Prices)
      → ((step m d b (request va a p)).device.registers ≡ d.registers) × ((step m d b (request va a p)).device.bank.lock ≡ d.bank.lock)
  pub write : (o v : ℕ) (p : Prices) → v < 2 ^ 16 → is_reset o v ≡ false → WriteKeeps o d (step m d b (write o v p)).device
  pub read : (o : ℕ) → (step m d b (read o)).device ≡ d
  pub dropped : ((step m d b drop-fault).device.registers ≡ d.registers) × ((step m d b drop-fault).device.bank ≡ d.bank)
  pub shift : (va : VirtualAddress) → (step m d b (shift va)).device ≡ d

-- so it is for every device and memory
abbrev pub Frames : Type 0
Frames = (m : Lent) (d : Device) (b : Bill) → LeavesAlone m d b
