-- Where the parts of a state lie among its bytes.
use Rattle.state.specs.Names.{ℕ}

-- lock base and victim
abbrev pub lock_offset : ℕ
lock_offset = 8

-- the staged entry
abbrev pub staged_offset : ℕ
staged_offset = 12

-- the read registers
abbrev pub copied_offset : ℕ
copied_offset = 20

-- the slots, of 8 bytes each
abbrev pub slots_offset : ℕ
slots_offset = 28

-- the pending fault: status, access, two zero bytes
abbrev pub pending_offset : ℕ
pending_offset = 284

-- its address
abbrev pub address_offset : ℕ
address_offset = 288

-- the meters
abbrev pub meters_offset : ℕ
meters_offset = 292

-- the last rows
abbrev pub rows_offset : ℕ
rows_offset = 320

-- all its bytes
abbrev pub state_size : ℕ
state_size = 328
