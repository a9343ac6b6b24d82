-- Demand 2, the registers: read back, reset, load and copy (01, "Registers").
use Rattle.std.specs.Prelude.{◌+◌, ◌*◌, ◌/◌, ◌%◌, ◌^◌, ◌<◌, ◌≡◌, ◌∷◌, ◌≢◌}
use Rattle.conduct.specs.Names.{ℕ, true, [], eqb, pick, no_tally, slot_at, fault_status, fault_address}
use Rattle.conduct.specs.Names.{words_of, entry_of, listed, Answer, fresh_device, in_range, prefetch_at, walk_status_at, control_at, fault_high_at}
use Rattle.conduct.specs.Names.{fault_low_at, fault_status_at, acknowledge_at, base_high_at, base_low_at, lock_at, load_at, cam_high_at, cam_low_at, ram_high_at}
use Rattle.conduct.specs.Names.{ram_low_at, flush_at, entry_flush_at, read_cam_high_at, read_cam_low_at, read_ram_high_at, read_ram_low_at, write, read, Said}
use Rattle.conduct.specs.Names.{Step, step, Lent, Bill, Prices, Device}
use Rattle.conduct.specs.Refused.{Accepted, BytesFit}
use Rattle.conduct.specs.Filled.{LanesFit}

-- what a register keeps of a value: reserved bits are dropped, load and the flushes read zero, and so does control
-- after a reset
unfoldable pub kept_bits : ℕ → ℕ → ℕ
kept_bits o v =
    listed (
    (prefetch_at, v % 2 ^ 14)
    ∷ (control_at, pick (eqb (v % 2) 1) (v / 32 % 2 * 32 + v % 8) 0)
    ∷ (base_high_at, v)
    ∷ (base_low_at, v / 128 * 128)
    ∷ (lock_at, v / 16 * 16)
    ∷ (cam_high_at, v % 4)
    ∷ (cam_low_at, v)
    ∷ (ram_high_at, v)
    ∷ (ram_low_at, v / 256 * 256)
    ∷ [])
    0 o

-- what a write that is not refused wrote is read back, with any bill; acknowledge is not read
abbrev pub ReadBack : Type 0
ReadBack =
    (m : Lent) (d : Device) (b b' : Bill) (o v : ℕ) (p : Prices)
    → BytesFit m → v < 2 ^ 16 → o ≢ acknowledge_at → Accepted m d b (write o v p)
    → (step m (step m d b (write o v p)).device b' (read o)).said ≡ Said.Answered (Answer.Value (kept_bits o v))

-- what each register shows of a device: its own part, the pending fault and its address, or zero
unfoldable pub shown_of : Device → ℕ → ℕ
shown_of d o =
    listed (
    (prefetch_at, d.registers.prefetch)
    ∷ (walk_status_at, 0)
    ∷ (control_at, d.registers.control)
    ∷ (fault_high_at, fault_address d.pending / 65536 % 256)
    ∷ (fault_low_at, fault_address d.pending / 128 % 512 * 128)
    ∷ (fault_status_at, fault_status d.pending)
    ∷ (base_high_at, d.registers.base.0 / 65536)
    ∷ (base_low_at, d.registers.base.0 % 65536)
    ∷ (lock_at, d.bank.lock * 1024 + d.bank.victim * 16)
    ∷ (load_at, 0)
    ∷ (cam_high_at, d.registers.staged.camhi)
    ∷ (cam_low_at, d.registers.staged.camlo)
    ∷ (ram_high_at, d.registers.staged.ramhi)
    ∷ (ram_low_at, d.registers.staged.ramlo)
    ∷ (flush_at, 0)
    ∷ (entry_flush_at, 0)
    ∷ (read_cam_high_at, d.registers.copied.camhi)
    ∷ (read_cam_low_at, d.registers.copied.camlo)
    ∷ (read_ram_high_at, d.registers.copied.ramhi)
    ∷ (read_ram_low_at, d.registers.copied.ramlo)
    ∷ [])
    0 o

abbrev pub ReadShown : Type 0
ReadShown =
    (m : Lent) (d : Device) (b : Bill) (o : ℕ) → Accepted m d b (read o) → (step m d b (read o)).said ≡ Said.Answered (Answer.Value (shown_of d o))

-- a write of control with bit 0 clear makes any device in range fresh, leaves the bill and adds nothing to the meters
pub record Resets (b : Bill) (s : Step) : Type 0 where
  pub device : s.device ≡ fresh_device
  pub bill : s.bill ≡ b
  pub tally : s.tally ≡ no_tally
  pub said : s.said ≡ Said.Answered Answer.Done

abbrev pub ResetFresh : Type 0
ResetFresh =
    (m : Lent) (d : Device) (b : Bill) (p : Prices) (v : ℕ) → in_range d ≡ true → v % 2 ≡ 0 → Resets b (step m d b (write control_at v p))

-- load stores the staged entry in the victim slot and no other, and leaves the registers
pub record Loads (before after : Device) : Type 0 where
  pub has : slot_at after.bank before.bank.victim ≡ words_of before.registers.staged
  pub others : (j : ℕ) → j ≢ before.bank.victim → slot_at after.bank j ≡ slot_at before.bank j
  pub registers : after.registers ≡ before.registers

-- copy gives the victim slot in register form, and leaves the slots
pub record Copies (before after : Device) : Type 0 where
  pub has : after.registers.copied ≡ entry_of (slot_at before.bank before.bank.victim)
  pub bank : after.bank ≡ before.bank

-- so it is for each that is not refused; with neither bit nothing changes
pub record LoadCopy (m : Lent) (d : Device) (b : Bill) (p : Prices) (v : ℕ) : Type 0 where
  pub neither : v % 4 ≡ 0 → (step m d b (write load_at v p)).device ≡ d
  pub load : LanesFit d.bank → v % 4 ≡ 1 → Accepted m d b (write load_at v p) → Loads d (step m d b (write load_at v p)).device
  pub copy : v % 4 ≡ 2 → Accepted m d b (write load_at v p) → Copies d (step m d b (write load_at v p)).device

abbrev pub LoadCopied : Type 0
LoadCopied = (m : Lent) (d : Device) (b : Bill) (p : Prices) (v : ℕ) → LoadCopy m d b p v

-- load then copy gives back the staged entry
abbrev pub LoadThenCopy : Type 0
LoadThenCopy =
    (m : Lent) (d e : Device) (b b' : Bill) (p p' : Prices) (v w : ℕ) → LanesFit d.bank → v % 4 ≡ 1 → w % 4 ≡ 2
    → Accepted m d b (write load_at v p) → e ≡ (step m d b (write load_at v p)).device → Accepted m e b' (write load_at w p')
    → (step m e b' (write load_at w p')).device.registers.copied ≡ d.registers.staged
