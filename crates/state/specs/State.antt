-- The state of a bench as 82 words.
use Rattle.std.specs.Prelude.{Option, Some, None}
use Rattle.std.specs.Prelude.{◌+◌, ◌*◌, ◌∷◌, ◌++◌}
use Rattle.state.specs.Names.{ℕ, zero, suc, List, [], get_or, Access, slots, fault_bit, Registers, Stall, Device, Bench}
use Rattle.state.specs.Names.{halves, swapped}
use Rattle.state.specs.Parts.{entry_words, lock_word, meter_words, bill_words}

-- prefetch, control; base; lock base, victim; the staged entry and the read registers
abbrev pub register_words : Registers → ℕ → List ℕ
register_words r lock =
    halves r.prefetch r.control ∷ r.base.0 ∷ lock ∷ (entry_words r.staged ++ entry_words r.copied)

-- the n slots from slot i on, in register form
unfoldable pub slot_words : List ℕ → List ℕ → ℕ → ℕ → List ℕ
slot_words cam ram i zero = []
slot_words cam ram i (suc n) = swapped (get_or cam i 0) ∷ swapped (get_or ram i 0) ∷ slot_words cam ram (i + 1) n

abbrev pub access_number : Access → ℕ
access_number Access.Read = 0
access_number Access.Write = 1

-- status, access, two zero bytes; address
abbrev pub pending_words : Option Stall → List ℕ
pending_words None = 0 ∷ 0 ∷ []
pending_words (Some s) = (fault_bit s.fault + 256 * access_number s.access) ∷ s.at.0 ∷ []

-- registers, slots, the pending fault
abbrev pub device_words : ℕ → Device → List ℕ
device_words handed d =
    register_words d.registers (lock_word handed d.bank.lock d.bank.victim)
    ++ (slot_words d.bank.cam d.bank.ram 0 slots ++ pending_words d.pending)

-- the device, the meters, the bill
abbrev pub state_words : ℕ → Bench → List ℕ
state_words handed b = device_words handed b.device ++ (meter_words b.meters ++ bill_words b.bill)
