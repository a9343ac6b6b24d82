-- The 21 registers in the order of Table 3 of 000: what a write asks for, and what a read shows (01, "Registers").
use Rattle.std.specs.Prelude.{Option, ◌+◌, ◌*◌, ◌/◌, ◌%◌, ◌∷◌}
use Rattle.registers.specs.Names.{ℕ, Bool, not, List, [], eqb, ltb, leb, pick, ◌and◌, slots, locked_at, bank_flushed}
use Rattle.registers.specs.Names.{bank_flushed_at, Bank, Stall, Entry, Registers, Answer, Setting, Tending, Command}
use Rattle.registers.specs.Answers.{fault_status, fault_address}
use Rattle.registers.specs.Fields.{cam_address}
use Rattle.registers.specs.Offsets.{prefetch_at, walk_status_at, control_at, fault_high_at, fault_low_at, fault_status_at, acknowledge_at, base_high_at}
use Rattle.registers.specs.Offsets.{base_low_at, lock_at, load_at, cam_high_at, cam_low_at, ram_high_at, ram_low_at, flush_at, entry_flush_at, read_cam_high_at}
use Rattle.registers.specs.Offsets.{read_cam_low_at, read_ram_high_at, read_ram_low_at}

-- a table of offsets: the first line that has the offset, else the last word
unfoldable pub listed : {A : Type 0} → List (ℕ × A) → A → ℕ → A
listed [] other o = other
listed (row ∷ rows) other o = pick (eqb o row.0) row.1 (listed rows other o)

-- no register: an offset that is no multiple of 4 or over 50 hex
unfoldable pub no_register : ℕ → Bool
no_register o = not (eqb (o % 4) 0 and leb o 0x50)

-- control keeps bits 5, 2, 1, 0; with bit 0 clear the device is made fresh
unfoldable pub control_command : ℕ → Command
control_command v = pick (eqb (v % 2) 1) (Command.Set (Setting.Control (v / 32 % 2 * 32 + v % 8))) Command.Reset

-- the lock register: base in 15:10, victim in 9:4
unfoldable pub lock_command : ℕ → Command
lock_command v = pick (ltb (v / 1024) slots and ltb (v / 16 % 64) slots) (Command.Tend (Tending.Lock (v / 1024) (v / 16 % 64))) (Command.Refused 8)

-- load with bit 0, copy with bit 1, never both
unfoldable pub load_command : ℕ → Command
load_command v = pick (eqb (v % 4) 0) Command.Nothing (pick (eqb (v % 4) 1) Command.Load (pick (eqb (v % 4) 2) Command.Copy (Command.Refused 8)))

-- a flush with bit 0
unfoldable pub when_bit : ℕ → Tending → Command
when_bit v t = pick (eqb (v % 2) 1) (Command.Tend t) Command.Nothing

-- a write to a read register
abbrev pub read_only : Command
read_only = Command.Refused 6

-- what a write of v asks for; 5 where there is no register
unfoldable pub command_of : ℕ → ℕ → Command
command_of o v =
    listed (
    (prefetch_at, Command.Prefetch v)
    ∷ (walk_status_at, read_only)
    ∷ (control_at, control_command v)
    ∷ (fault_high_at, read_only)
    ∷ (fault_low_at, read_only)
    ∷ (fault_status_at, read_only)
    ∷ (acknowledge_at, Command.Acknowledge (eqb (v % 2) 1))
    ∷ (base_high_at, Command.Set (Setting.BaseHigh v))
    ∷ (base_low_at, Command.Set (Setting.BaseLow (v / 128 * 128)))
    ∷ (lock_at, lock_command v)
    ∷ (load_at, load_command v)
    ∷ (cam_high_at, Command.Set (Setting.CamHigh (v % 4)))
    ∷ (cam_low_at, Command.Set (Setting.CamLow v))
    ∷ (ram_high_at, Command.Set (Setting.RamHigh v))
    ∷ (ram_low_at, Command.Set (Setting.RamLow (v / 256 * 256)))
    ∷ (flush_at, when_bit v Tending.Flush)
    ∷ (entry_flush_at, when_bit v Tending.FlushEntry)
    ∷ (read_cam_high_at, read_only)
    ∷ (read_cam_low_at, read_only)
    ∷ (read_ram_high_at, read_only)
    ∷ (read_ram_low_at, read_only)
    ∷ [])
    (Command.Refused 5) o

-- what a read gives; 6 at acknowledge, 5 where there is no register
unfoldable pub value_at : ℕ → Registers → ℕ → ℕ → Option Stall → Answer
value_at o r lock victim p =
    listed (
    (prefetch_at, Answer.Value r.prefetch)
    ∷ (walk_status_at, Answer.Value 0)
    ∷ (control_at, Answer.Value r.control)
    ∷ (fault_high_at, Answer.Value (fault_address p / 65536 % 256))
    ∷ (fault_low_at, Answer.Value (fault_address p / 128 % 512 * 128))
    ∷ (fault_status_at, Answer.Value (fault_status p))
    ∷ (acknowledge_at, Answer.Refused 6)
    ∷ (base_high_at, Answer.Value (r.base.0 / 65536))
    ∷ (base_low_at, Answer.Value (r.base.0 % 65536))
    ∷ (lock_at, Answer.Value (lock % 64 * 1024 + victim % 64 * 16))
    ∷ (load_at, Answer.Value 0)
    ∷ (cam_high_at, Answer.Value r.staged.camhi)
    ∷ (cam_low_at, Answer.Value r.staged.camlo)
    ∷ (ram_high_at, Answer.Value r.staged.ramhi)
    ∷ (ram_low_at, Answer.Value r.staged.ramlo)
    ∷ (flush_at, Answer.Value 0)
    ∷ (entry_flush_at, Answer.Value 0)
    ∷ (read_cam_high_at, Answer.Value r.copied.camhi)
    ∷ (read_cam_low_at, Answer.Value r.copied.camlo)
    ∷ (read_ram_high_at, Answer.Value r.copied.ramhi)
    ∷ (read_ram_low_at, Answer.Value r.copied.ramlo)
    ∷ [])
    (Answer.Refused 5) o

-- the slots after a flush or a write of the lock register
abbrev pub tended : Bank → Entry → Tending → Bank
tended b staged (Tending.Lock l v) = locked_at b l v
tended b staged Tending.Flush = bank_flushed b
tended b staged Tending.FlushEntry = bank_flushed_at b (cam_address staged)
