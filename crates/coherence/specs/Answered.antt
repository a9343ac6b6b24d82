-- What keeps the promise from being hollow: a request or a retry that the paper does not refuse is answered (01,
-- "When the unit says no").
use Rattle.std.specs.Prelude.{Some, None, ◌%◌, ◌<◌, ◌≡◌}
use Rattle.coherence.specs.Names.{ℕ, true, false, is_missing, money_ok, is_prefetch, is_refusal, limit, stall, Access}
use Rattle.coherence.specs.Names.{VirtualAddress, Lent, lent_ok, Bill, Prices, Fault, Answer, Device, in_range, acknowledge_at, request_of, write_of}
use Rattle.coherence.specs.Names.{Look}
use Rattle.coherence.specs.Agreement.{plain, Coherent}
use Rattle.walk.specs.Uniform.{look_in}

-- neither 8 nor 4 nor 9 holds
pub record Ready (m : Lent) (p : Prices) (b : Bill) (d : Device) : Type 0 where
  pub range : in_range d ≡ true
  pub memories : lent_ok m ≡ true
  pub money : money_ok p b ≡ true

-- an answer that is no refusal, and is the plain walk's
pub record Answered (look : Look) (va : VirtualAddress) (a : Access) (r : Answer) : Type 0 where
  pub accepted : is_refusal r ≡ false
  pub plainly : r ≡ plain look va a

-- a request, with nothing pending and every descriptor that its walk needs at hand
abbrev pub RequestAnswered : Lent → ℕ → Type 0
RequestAnswered m base =
    (p : Prices) (b : Bill) (d : Device) (va : VirtualAddress) (a : Access) →
    Coherent (look_in m base) base d →
    Ready m p b d →
    d.pending ≡ None →
    va.0 < limit →
    is_missing (look_in m base va).found ≡ false →
    Answered (look_in m base) va a (request_of m p b d va a).answer

-- the retry of a pending request: acknowledge, with bit 0 set
abbrev pub RetryAnswered : Lent → ℕ → Type 0
RetryAnswered m base =
    (p : Prices) (b : Bill) (d : Device) (v : ℕ) (k : Fault) (va : VirtualAddress) (a : Access) →
    Coherent (look_in m base) base d →
    Ready m p b d →
    d.pending ≡ Some (stall k va a) →
    is_prefetch k ≡ false →
    v % 2 ≡ 1 →
    is_missing (look_in m base va).found ≡ false →
    Answered (look_in m base) va a (write_of m p b d acknowledge_at v).answer
