-- Answers and pending faults, with the paper's numbers (01, "When the unit says no", "Registers").
use Rattle.std.specs.Prelude.{Option, Some, None, ◌∷◌}
use Rattle.registers.specs.Names.{ℕ, Bool, true, false, List, [], Fault, Stall, Answer, VirtualAddress, Access}

-- the paper's number of a fault
abbrev pub fault_number : Fault → ℕ
fault_number Fault.Translation = 21
fault_number Fault.Miss = 22
fault_number Fault.Permission = 23
fault_number Fault.Prefetch = 24

-- the paper's number of an answer; 0 where the paper has none
abbrev pub answer_number : Answer → ℕ
answer_number (Answer.Address x) = 0
answer_number (Answer.Fault k) = fault_number k
answer_number (Answer.Value x) = 0
answer_number Answer.Done = 0
answer_number (Answer.Refused k) = k

-- what stands beside the number
abbrev pub answer_values : Answer → List ℕ
answer_values (Answer.Address x) = x.0 ∷ []
answer_values (Answer.Fault k) = []
answer_values (Answer.Value x) = x ∷ []
answer_values Answer.Done = []
answer_values (Answer.Refused k) = []

-- 1 to 12: the call is refused
abbrev pub is_refusal : Answer → Bool
is_refusal (Answer.Address x) = false
is_refusal (Answer.Fault k) = false
is_refusal (Answer.Value x) = false
is_refusal Answer.Done = false
is_refusal (Answer.Refused k) = true

-- a fault that is held, of its parts
abbrev pub stall : Fault → VirtualAddress → Access → Stall
stall k va a = record { fault = k; at = va; access = a }

-- nothing is pending
abbrev pub idle : Option Stall → Bool
idle None = true
idle (Some s) = false

-- a fault in a prefetch
abbrev pub is_prefetch : Fault → Bool
is_prefetch Fault.Translation = false
is_prefetch Fault.Miss = false
is_prefetch Fault.Permission = false
is_prefetch Fault.Prefetch = true

-- the status bit of a fault: 8 prefetch, 4 permission, 2 miss, 1 translation
abbrev pub fault_bit : Fault → ℕ
fault_bit Fault.Translation = 1
fault_bit Fault.Miss = 2
fault_bit Fault.Permission = 4
fault_bit Fault.Prefetch = 8

-- the fault status, zero when nothing is pending
abbrev pub fault_status : Option Stall → ℕ
fault_status None = 0
fault_status (Some s) = fault_bit s.fault

-- the fault address, zero when nothing is pending
abbrev pub fault_address : Option Stall → ℕ
fault_address None = 0
fault_address (Some s) = s.at.0
