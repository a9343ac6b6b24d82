-- Demand 2, the pending fault after each call (01, "Registers", "When the unit says no").
use Rattle.std.specs.Prelude.{Option, Some, None, ◌%◌, ◌≡◌}
use Rattle.conduct.specs.Names.{ℕ, Bool, true, Answer, cleared, done_with, prefetch_at, acknowledge_at, Call, write, drop-fault, Said}
use Rattle.conduct.specs.Names.{step_out, step, Access, VirtualAddress, PhysicalAddress, Lent, Bill, Prices, Fault, Stall, stall, Device}
use Rattle.conduct.specs.Refused.{said_refused, Accepted}
use Rattle.conduct.specs.Attempted.{Attempted, attempt, prefetch, attempted}

-- a request or a retry that answers a fault holds it with its address and access; a prefetch's fault is 24, and holds
-- prefetch, the page and read; an address clears the pending fault; a refusal leaves it
pub record HeldBy (q : Attempted) (before after : Option Stall) (s : Said) : Type 0 where
  pub fault : (again : Bool) (va : VirtualAddress) (a : Access) (k : Fault) → q ≡ attempt again va a → s ≡ Said.Answered (Answer.Fault k) → after ≡ Some (stall k va a)
  pub prefetched :
      (va : VirtualAddress) (k : Fault) → q ≡ prefetch va → s ≡ Said.Answered (Answer.Fault k)
      → (k ≡ Fault.Prefetch) × (after ≡ Some (stall Fault.Prefetch va Access.Read))
  pub address : (x : PhysicalAddress) → s ≡ Said.Answered (Answer.Address x) → after ≡ None
  pub refused : said_refused s ≡ true → after ≡ before

-- so it is after every call
abbrev pub FaultHeld : Type 0
FaultHeld =
    (m : Lent) (d : Device) (b : Bill) (c : Call) → HeldBy (attempted d c) d.pending (step m d b c).device.pending (step m d b c).said

-- a drop clears the pending fault; acknowledging a pending prefetch only drops it, and with bit 0 clear does nothing;
-- a prefetch that finds its page leaves what is pending
pub record Dropped (m : Lent) (d : Device) (b : Bill) : Type 0 where
  pub drop : Accepted m d b drop-fault → (step m d b drop-fault).device.pending ≡ None
  pub acknowledged :
      (va : VirtualAddress) (a : Access) (v : ℕ) (p : Prices) → d.pending ≡ Some (stall Fault.Prefetch va a) → v % 2 ≡ 1
      → Accepted m d b (write acknowledge_at v p) → step m d b (write acknowledge_at v p) ≡ step_out (done_with b (cleared d))
  pub idle-bit : (v : ℕ) (p : Prices) → v % 2 ≡ 0 → (step m d b (write acknowledge_at v p)).device ≡ d
  pub found :
      (v : ℕ) (p : Prices) → (step m d b (write prefetch_at v p)).said ≡ Said.Answered Answer.Done
      → (step m d b (write prefetch_at v p)).device.pending ≡ d.pending

-- so it is for every device and memory
abbrev pub FaultDropped : Type 0
FaultDropped = (m : Lent) (d : Device) (b : Bill) → Dropped m d b
