-- What keeps demand 3 from being hollow: each request that the paper does not refuse is in fact answered, and so is each retry.
use Rattle.std.specs.Prelude.{Some, None}
use Rattle.std.specs.Prelude.{Ok}
use Rattle.std.specs.Prelude.{◌%◌, ◌<◌, ◌≡◌, ◌∷◌}
use Rattle.demands.specs.Demands.Names.{megabytes, limit, ℕ, true, false, List, [], Lent, lent_ok, money_ok, mappings}
use Rattle.demands.specs.Demands.Names.{meaning, image, answer_of, is_prefetch, stall, Access, VirtualAddress, Bill, Prices, Fault}
use Rattle.demands.specs.Demands.Names.{Device, acknowledge_at, request_of, write_of, BytesFit, ValueFits, BilledCall, after, Admitted, TurnsOn}
use Rattle.demands.specs.Demands.Names.{start, Bytes, Standing}
use Rattle.demands.specs.Demands.{AsList}

-- every value written has 16 bits, as its type says
abbrev pub ValuesFit : List BilledCall → Type 0
ValuesFit [] = Unit {0}
ValuesFit (c ∷ cs) = ValueFits c.1 × ValuesFit cs

-- a session of demand 3 over memories that are not refused
pub record Session (rs : List ℕ) (base : ℕ) (m : Lent) (d : Device) : Type 0 where
  pub room : ℕ
  pub len : ℕ
  pub v : ℕ
  pub p : Prices
  pub b : Bill
  pub calls : List BilledCall
  pub bytes : Bytes rs
  pub accepted : answer_of rs base room ≡ Ok len
  pub lent : lent_ok m ≡ true
  pub lent-bytes : BytesFit m
  pub standing : Standing m base (image megabytes (mappings rs) base)
  pub on : TurnsOn v
  pub admitted : Admitted calls
  pub values : ValuesFit calls
  pub device : d ≡ after m (start m base v p b) calls

-- a request below 2^24 with nothing pending and good prices and bill answers as the list
abbrev pub RequestsAnswered : Type 0
RequestsAnswered =
    (rs : List ℕ) (base : ℕ) (m : Lent) (d : Device) → Session rs base m d →
    (p : Prices) (b : Bill) (va : VirtualAddress) (a : Access) →
    d.pending ≡ None → va.0 < limit → money_ok p b ≡ true →
    AsList (request_of m p b d va a).answer (meaning (mappings rs) va a)

-- and so does the retry of a pending request
abbrev pub RetriesAnswered : Type 0
RetriesAnswered =
    (rs : List ℕ) (base : ℕ) (m : Lent) (d : Device) → Session rs base m d →
    (p : Prices) (b : Bill) (v : ℕ) (k : Fault) (va : VirtualAddress) (a : Access) →
    d.pending ≡ Some (stall k va a) → is_prefetch k ≡ false → v % 2 ≡ 1 → money_ok p b ≡ true →
    AsList (write_of m p b d acknowledge_at v).answer (meaning (mappings rs) va a)
