-- Demand 3 in the buyer's order: build a list into a memory, lend that memory, start, call. And a session with list A.
use Rattle.std.specs.Prelude.{Ok}
use Rattle.std.specs.Prelude.{◌≡◌, ◌∷◌}
use Rattle.demands.specs.Demands.Names.{lock_at, virtual, physical, ℕ, false, List, [], replicate, PhysicalAddress, Lent, LentAt, lent_alone, f1}
use Rattle.demands.specs.Demands.Names.{fresh_bill, mappings, meaning, build_of, Price, is_refusal, Access, VirtualAddress, Bill, Prices}
use Rattle.demands.specs.Demands.Names.{Answer, Device, prefetch_at, acknowledge_at, request_of, Call, request, write, read, drop-fault, Said}
use Rattle.demands.specs.Demands.Names.{step, BilledCall, after, Admitted, asked, asks, TurnsOn, start, Bytes, records_a, base_a}
use Rattle.demands.specs.Demands.{AsList}
use Rattle.demands.specs.Answering.{ValuesFit, Session}

-- a list is built into a memory, that memory is lent at the list's base, the unit is started from it and called: each request or
-- retry that is not refused answers as the list alone would
abbrev pub BuiltThenCalled : Type 0
BuiltThenCalled =
    (rs : List ℕ) (base len : ℕ) (before : List ℕ) (m : Lent) (v : ℕ) (p : Prices) (b₀ : Bill)
    (cs : List BilledCall) (b : Bill) (c : Call) (va : VirtualAddress) (a : Access) (r : Answer) →
    Bytes rs →
    (build_of rs base before).answer ≡ Ok len →
    LentAt (build_of rs base before).memory base m →
    TurnsOn v →
    Admitted cs →
    asked (after m (start m base v p b₀) cs) c ≡ asks va a →
    (step m (after m (start m base v p b₀) cs) b c).said ≡ Said.Answered r →
    is_refusal r ≡ false →
    AsList r (meaning (mappings rs) va a)

-- what a build leaves in a memory, so lent
abbrev pub built_in : List ℕ → ℕ → List ℕ → Lent
built_in rs base before = lent_alone (build_of rs base before).memory base

-- and that is a session in which each is answered, whatever bytes stood in the memory before
abbrev pub BuiltSession : Type 0
BuiltSession =
    (rs : List ℕ) (base len : ℕ) (before : List ℕ) (v : ℕ) (p : Prices) (b : Bill) (cs : List BilledCall) →
    Bytes rs →
    Bytes before →
    (build_of rs base before).answer ≡ Ok len →
    TurnsOn v →
    Admitted cs →
    ValuesFit cs →
    Session rs base (built_in rs base before) (after (built_in rs base before) (start (built_in rs base before) base v p b) cs)

-- a memory that just holds the image of list A, a nanosecond a word, and the bench sheet's start from such a memory
abbrev pub room_a : ℕ
room_a = 8192

abbrev pub prices_a : Prices
prices_a = record { onchip = Price.Flat f1; external = Price.Flat f1 }

abbrev pub start_a : Lent → Device
start_a m = start m base_a 7 prices_a fresh_bill

-- list A built in zero bytes, and the device started from it
abbrev pub memory_a : Lent
memory_a = built_in records_a base_a (replicate room_a 0)

abbrev pub device_a : Device
device_a = start_a memory_a

-- a request that is answered, one that is not permitted, its retry, a drop, a prefetch, a request again, a read
abbrev pub calls_a : List BilledCall
calls_a =
    (fresh_bill, request (virtual 0x012345) Access.Read prices_a)
    ∷ (fresh_bill, request (virtual 0x3abcde) Access.Write prices_a)
    ∷ (fresh_bill, write acknowledge_at 1 prices_a)
    ∷ (fresh_bill, drop-fault)
    ∷ (fresh_bill, write prefetch_at 0x1401 prices_a)
    ∷ (fresh_bill, request (virtual 0x5007ff) Access.Read prices_a)
    ∷ (fresh_bill, read lock_at)
    ∷ []

-- the byte of the first request
abbrev pub byte_a : PhysicalAddress
byte_a = physical 0x10022345

-- the start and the session after these calls meet the hypotheses of demand 3, and the start's first request is answered
pub record Exhibited : Type 0 where
  pub first : Session records_a base_a memory_a device_a
  pub session : Session records_a base_a memory_a (after memory_a device_a calls_a)
  pub answers : (request_of memory_a prices_a fresh_bill device_a (virtual 0x012345) Access.Read).answer ≡ Answer.Address byte_a
