-- A session: any calls but writes to control or base, each with its own prices and bill, and what each asks (01,
-- demand 3).
use Rattle.std.specs.Prelude.{Option, Some, None, ◌%◌, ◌<◌, ◌≡◌, ◌∷◌}
use Rattle.coherence.specs.Names.{ℕ, Bool, true, false, not, List, [], eqb, pick, ◌and◌, physical, limit, Lent, Bill}
use Rattle.coherence.specs.Names.{fresh_bank, is_prefetch, is_refusal, no_entry, Stall, Access, VirtualAddress, Answer, Device, control_at}
use Rattle.coherence.specs.Names.{acknowledge_at, base_high_at, base_low_at, one_of, Call, request, write, read, drop-fault, shift, Said, step}
use Rattle.coherence.specs.Agreement.{plain}
use Rattle.walk.specs.Uniform.{look_in}

-- a call with the bill that it is handed
abbrev pub BilledCall : Type 0
BilledCall = Bill × Call

-- the device after calls over the same two memories
abbrev pub after : Lent → Device → List BilledCall → Device
after m d [] = d
after m d (c ∷ cs) = after m (step m d c.0 c.1).device cs

-- the registers that a session leaves alone
abbrev pub is_fixed : ℕ → Bool
is_fixed o = one_of (control_at ∷ base_high_at ∷ base_low_at ∷ []) o

-- every call is admitted but a write to one of these: load and copy are refused 7 while walking is set
abbrev pub admitted : Call → Bool
admitted (request va a p) = true
admitted (write o v p) = not (is_fixed o)
admitted (read o) = true
admitted drop-fault = true
admitted (shift va) = true

-- all calls of a session are
abbrev pub Admitted : List BilledCall → Type 0
Admitted [] = Unit {0}
Admitted (c ∷ cs) = (admitted c.1 ≡ true) × Admitted cs

-- what may be asked: an address, freshly or again, or none at all
pub data Asked : Type 0 where
  asks : VirtualAddress → Access → Asked
  nothing : Asked

-- what an acknowledgement asks: a pending prefetch is only dropped
abbrev pub retried_of : Option Stall → Asked
retried_of None = nothing
retried_of (Some s) = pick (is_prefetch s.fault) nothing (asks s.at s.access)

-- what a call asks of a device
abbrev pub asked : Device → Call → Asked
asked d (request va a p) = asks va a
asked d (write o v p) = pick (eqb o acknowledge_at and eqb (v % 2) 1) (retried_of d.pending) nothing
asked d (read o) = nothing
asked d drop-fault = nothing
asked d (shift va) = nothing

-- fresh, but for control and base
abbrev pub started : ℕ → ℕ → Device
started control base = record {
  registers = record { control = control; base = physical base; prefetch = 0; staged = no_entry; copied = no_entry };
  bank = fresh_bank;
  pending = None;
}

-- after any admitted calls, each request or retry that is not refused answers what the plain walk alone answers
abbrev pub CacheNeverShows : Lent → ℕ → ℕ → Type 0
CacheNeverShows m control base =
    (cs : List BilledCall) (b : Bill) (c : Call) (va : VirtualAddress) (a : Access) (r : Answer) →
    Admitted cs →
    asked (after m (started control base) cs) c ≡ asks va a →
    (step m (after m (started control base) cs) b c).said ≡ Said.Answered r →
    is_refusal r ≡ false →
    (va.0 < limit) × (r ≡ plain (look_in m base) va a)
