-- The offsets of Table 3 (01, "Registers").
use Rattle.registers.specs.Names.{ℕ}

abbrev pub prefetch_at : ℕ
prefetch_at = 0x00

abbrev pub walk_status_at : ℕ
walk_status_at = 0x04

abbrev pub control_at : ℕ
control_at = 0x08

-- the halves of the fault address
abbrev pub fault_high_at : ℕ
fault_high_at = 0x0c

abbrev pub fault_low_at : ℕ
fault_low_at = 0x10

abbrev pub fault_status_at : ℕ
fault_status_at = 0x14

abbrev pub acknowledge_at : ℕ
acknowledge_at = 0x18

-- the halves of the base
abbrev pub base_high_at : ℕ
base_high_at = 0x1c

abbrev pub base_low_at : ℕ
base_low_at = 0x20

abbrev pub lock_at : ℕ
lock_at = 0x24

abbrev pub load_at : ℕ
load_at = 0x28

-- the staged entry, which a load stores
abbrev pub cam_high_at : ℕ
cam_high_at = 0x2c

abbrev pub cam_low_at : ℕ
cam_low_at = 0x30

abbrev pub ram_high_at : ℕ
ram_high_at = 0x34

abbrev pub ram_low_at : ℕ
ram_low_at = 0x38

abbrev pub flush_at : ℕ
flush_at = 0x3c

abbrev pub entry_flush_at : ℕ
entry_flush_at = 0x40

-- the entry that a copy reads back
abbrev pub read_cam_high_at : ℕ
read_cam_high_at = 0x44

abbrev pub read_cam_low_at : ℕ
read_cam_low_at = 0x48

abbrev pub read_ram_high_at : ℕ
read_ram_high_at = 0x4c

abbrev pub read_ram_low_at : ℕ
read_ram_low_at = 0x50
