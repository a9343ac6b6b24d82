-- What a call asks of the slots, and what the plain walk gives for it (01, "The unit", "The walk", "Registers").
use Rattle.std.specs.Prelude.{Option, Some, None, ◌%◌, ◌≡◌}
use Rattle.conduct.specs.Names.{ℕ, Bool, true, false, eqb, pick, ◌and◌, looked_up, is_prefetch, is_on, is_walking, page_at, look}
use Rattle.conduct.specs.Names.{prefetch_at, acknowledge_at, no_match, may_walk, Call, request, write, read, drop-fault, shift, Access}
use Rattle.conduct.specs.Names.{VirtualAddress, Lent, Reads, Stall, Device}

-- nothing, an attempt (a retry or a fresh request), or a prefetch
pub data Attempted : Type 0 where
  nothing : Attempted
  attempt : Bool → VirtualAddress → Access → Attempted
  prefetch : VirtualAddress → Attempted

-- an acknowledgement retries the pending request as it was; a pending prefetch is only dropped
abbrev pub retry_attempted : Option Stall → Attempted
retry_attempted None = nothing
retry_attempted (Some s) = pick (is_prefetch s.fault) nothing (attempt true s.at s.access)

-- a write of prefetch asks for its page, one of acknowledge with bit 0 for the retry
unfoldable pub write_attempted : Option Stall → ℕ → ℕ → Attempted
write_attempted q o v =
    pick (eqb o prefetch_at) (prefetch (page_at v))
    (pick (eqb o acknowledge_at and eqb (v % 2) 1) (retry_attempted q) nothing)

-- what a call asks for
abbrev pub attempted : Device → Call → Attempted
attempted d (request va a p) = attempt false va a
attempted d (write o v p) = write_attempted d.pending o v
attempted d (read o) = nothing
attempted d drop-fault = nothing
attempted d (shift va) = nothing

-- what is asked is asked for this address
abbrev pub AttemptedAt : VirtualAddress → Attempted → Type 0
AttemptedAt va nothing = ⊥
AttemptedAt va (attempt again x a) = x ≡ va
AttemptedAt va (prefetch x) = x ≡ va

-- the calls that may walk: a request, a write of prefetch or acknowledge, and the shift report
abbrev pub call_walks : Call → Bool
call_walks (request va a p) = true
call_walks (write o v p) = may_walk o
call_walks (read o) = false
call_walks drop-fault = false
call_walks (shift va) = true

-- an address is walked for where the unit is on, no slot matches and walking is set
unfoldable pub walks_for : Device → VirtualAddress → Bool
walks_for d va = is_on d.registers.control and no_match (looked_up d.bank.cam va) and is_walking d.registers.control

-- the words read for an address: those of the plain walk where it is walked for, else none
unfoldable pub reads_for : Lent → Device → VirtualAddress → Reads
reads_for m d va = pick (walks_for d va) (look m d va).reads Reads.Nothing
