-- What a list of mappings means at an address (01, demand 3).
use Rattle.std.specs.Prelude.{Result, Ok, Err}
use Rattle.records.specs.declared.Denial.{Denial}
use Rattle.page.specs.declared.PhysicalAddress.{PhysicalAddress}
use Rattle.std.specs.Prelude.{Option, Some, None}
use Rattle.std.specs.Prelude.{◌∷◌}
use Rattle.records.specs.Names.{ℕ, List, [], pick, permits, Access, VirtualAddress, Mapping}
use Rattle.records.specs.Mappings.{holds, byte_of}

-- the first mapping of a list whose region has the address
unfoldable pub holder : List Mapping → VirtualAddress → Option Mapping
holder [] va = None
holder (m ∷ ms) va = pick (holds m va) (Some m) (holder ms va)

-- a mapping's byte where it permits the access; no mapping is a translation fault
abbrev pub held_meaning : Option Mapping → VirtualAddress → Access → Result PhysicalAddress Denial
held_meaning (Some m) va a = pick (permits m.access a) (Ok (byte_of m va)) (Err Denial.Permission)
held_meaning None va a = Err Denial.Translation

unfoldable pub meaning : List Mapping → VirtualAddress → Access → Result PhysicalAddress Denial
meaning ms va a = held_meaning (holder ms va) va a

-- the paper's number of a fault, 0 where there is none
abbrev pub meaning_number : Result PhysicalAddress Denial → ℕ
meaning_number (Ok p) = 0
meaning_number (Err Denial.Permission) = 23
meaning_number (Err Denial.Translation) = 21

-- what stands beside the number: the address of a byte
abbrev pub meaning_values : Result PhysicalAddress Denial → List ℕ
meaning_values (Ok p) = p.0 ∷ []
meaning_values (Err Denial.Permission) = []
meaning_values (Err Denial.Translation) = []
