-- The registers' fields: control bits, a slot in register form, ranges, settings (01, "Registers", "The unit").
use Rattle.std.specs.Prelude.{Option, Some, None, ◌+◌, ◌*◌, ◌/◌, ◌%◌, ◌^◌}
use Rattle.registers.specs.Names.{ℕ, Bool, true, eqb, ltb, ◌and◌, virtual, physical, limit, VirtualAddress, Words, Entry, Registers, Stall, Setting}

-- control: 1 enable, 2 walk
abbrev pub is_on : ℕ → Bool
is_on control = eqb (control / 2 % 2) 1

abbrev pub is_walking : ℕ → Bool
is_walking control = eqb (control / 4 % 2) 1

-- a fresh device is all zero
abbrev pub no_entry : Entry
no_entry = record { camhi = 0; camlo = 0; ramhi = 0; ramlo = 0 }

abbrev pub fresh_registers : Registers
fresh_registers = record { control = 0; base = physical 0; prefetch = 0; staged = no_entry; copied = no_entry }

-- in range: control has bits 5, 2, 1, 0; the base is a multiple of 128; the prefetch register has bits 13:0;
-- CAM high has bits 1:0, RAM low bits 15:8; a pending address is a virtual one
abbrev pub half_ok : ℕ → Bool
half_ok v = ltb v (2 ^ 16)

unfoldable pub entry_ok : Entry → Bool
entry_ok e = ltb e.camhi 4 and half_ok e.camlo and half_ok e.ramhi and half_ok e.ramlo and eqb (e.ramlo % 256) 0

unfoldable pub registers_ok : Registers → Bool
registers_ok r =
    ltb r.control 64 and eqb (r.control / 8 % 4) 0
    and ltb r.base.0 (2 ^ 32) and eqb (r.base.0 % 128) 0
    and ltb r.prefetch (2 ^ 14)
    and entry_ok r.staged
    and entry_ok r.copied

abbrev pub pending_ok : Option Stall → Bool
pending_ok None = true
pending_ok (Some s) = ltb s.at.0 limit

-- a slot's words are the halves of its register form
abbrev pub words_of : Entry → Words
words_of e = record { cam = e.camhi * 65536 + e.camlo; ram = e.ramhi * 65536 + e.ramlo }

abbrev pub entry_of : Words → Entry
entry_of w = record { camhi = w.cam / 65536; camlo = w.cam % 65536; ramhi = w.ram / 65536; ramlo = w.ram % 65536 }

-- the address of the CAM registers: bits 23:10
unfoldable pub cam_address : Entry → VirtualAddress
cam_address e = virtual ((words_of e).cam / 16 % 2 ^ 14 * 2 ^ 10)

-- registers with one part set
abbrev pub with_control : Registers → ℕ → Registers
with_control r v = record r { control = v }

abbrev pub with_base : Registers → ℕ → Registers
with_base r b = record r { base = physical b }

abbrev pub with_prefetch : Registers → ℕ → Registers
with_prefetch r v = record r { prefetch = v }

abbrev pub with_staged : Registers → Entry → Registers
with_staged r e = record r { staged = e }

abbrev pub with_copied : Registers → Entry → Registers
with_copied r e = record r { copied = e }

-- the registers after a setting
abbrev pub setting : Registers → Setting → Registers
setting r (Setting.Control v) = with_control r v
setting r (Setting.BaseHigh v) = with_base r (v * 65536 + r.base.0 % 65536)
setting r (Setting.BaseLow v) = with_base r (r.base.0 / 65536 * 65536 + v)
setting r (Setting.CamHigh v) = with_staged r (record (r.staged) { camhi = v })
setting r (Setting.CamLow v) = with_staged r (record (r.staged) { camlo = v })
setting r (Setting.RamHigh v) = with_staged r (record (r.staged) { ramhi = v })
setting r (Setting.RamLow v) = with_staged r (record (r.staged) { ramlo = v })
