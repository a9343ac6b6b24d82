-- The plain walk over an image answers as the list, and the start is what its writes leave. Assumes nothing.
use Rattle.walk.specs.declared.Unfound.{Unfound}
use Rattle.walk.specs.declared.Page.{Page}
use Rattle.std.proofs.Common.{Result, Ok, Err}
use Rattle.records.specs.declared.Denial.{Denial}
use Rattle.std.proofs.Common.{Option, Some, None}
use Rattle.demands.specs.Demands.Names.{◌≡◌, Bool, true, false, List, ℕ, ◌%◌, ◌<◌, megabytes, limit, Lent, lent_ok, mappings, meaning}
use Rattle.demands.specs.Demands.Names.{answer_of, Access, VirtualAddress, PhysicalAddress, Bill, Prices, Answer, TurnsOn, start}
use Rattle.demands.proofs.Names.{refl, sym, ◌∙◌, ap, ap₂, subst, false≢true, arith, pick, byte_of, holder, accepted, Uniform, started, look_in}
use Rattle.demands.proofs.Names.{start_control, started_in_any_order, meant_as, AsList}
use Prim.Native.Nat.{◌^◌}
use Rattle.page.specs.Words.{permits}
use Rattle.walk.specs.Distances.{is_missing}
use Rattle.walk.proofs.Walks.{walk_refused}
use Rattle.records.specs.declared.Mapping.{Mapping}
use Rattle.records.specs.Meanings.{held_meaning}
use Rattle.builder.proofs.Answers.{room_unit, room-memory}
use Rattle.tables.proofs.Places.{image-first}
use Rattle.decision.specs.Names.{Reads, Walked}
use Rattle.decision.specs.Decisions.{by_access, by_found}
use Rattle.coherence.specs.Agreement.{plain}
use Rattle.walk.specs.Uniform.{Look}
use Rattle.translates.specs.Statements.{Gives}

-- a byte with its access, and what a mapping says of it
access_said : (m : Mapping) (va : VirtualAddress) (a : Access) (t : Bool) → permits m.access a ≡ t → by_access m.access (byte_of m va) a ≡ meant_as (held_meaning (Some m) va a)
unfolding by_access pick
access_said m va a true e = rw e
access_said m va a false e = rw e

pub gives-said : (h : Option Mapping) (va : VirtualAddress) (a : Access) (r : Reads) (f : Result Page Unfound) → Gives h va f → (by_found va a r f).answer ≡ meant_as (held_meaning h va a)
unfolding by_found
gives-said (Some m) va a r (Ok p) g =
    ap₂ (λ (x : PhysicalAddress) (n : ℕ). by_access n x a) g.0 g.1 ∙ access_said m va a (permits m.access a) refl
gives-said (Some m) va a r (Err Unfound.NoPage) g = absurd g
gives-said (Some m) va a r (Err Unfound.Missing) g = absurd g
gives-said None va a r (Ok p) g = absurd g
gives-said None va a r (Err Unfound.NoPage) g = refl
gives-said None va a r (Err Unfound.Missing) g = absurd g

pub list-said : (look : Look) (ms : List Mapping) (va : VirtualAddress) (a : Access) → Gives (holder ms va) va (look va).found → plain look va a ≡ meant_as (meaning ms va a)
unfolding meaning
list-said look ms va a g = gives-said (holder ms va) va a (look va).reads (look va).found g

-- in the paper's number and values too
numbers : (x : Result PhysicalAddress Denial) → AsList (meant_as x) x
numbers (Ok p) = record { answer = refl; number = refl; values = refl }
numbers (Err Denial.Permission) = record { answer = refl; number = refl; values = refl }
numbers (Err Denial.Translation) = record { answer = refl; number = refl; values = refl }

pub as_list : (r : Answer) (x : Result PhysicalAddress Denial) → r ≡ meant_as x → AsList r x
as_list r x e = subst (λ (y : Answer). AsList y x) (sym e) (numbers x)

-- a walk that gives what the list says misses no word
pub gives_found : (h : Option Mapping) (va : VirtualAddress) (f : Result Page Unfound) → Gives h va f → is_missing f ≡ false
gives_found h va (Ok p) g = refl
gives_found h va (Err Unfound.NoPage) g = refl
gives_found (Some m) va (Err Unfound.Missing) g = absurd g
gives_found None va (Err Unfound.Missing) g = absurd g

-- over refused memories a walk finds nothing at all
pub refused-uniform : (m : Lent) (base : ℕ) → lent_ok m ≡ false → Uniform limit (look_in m base)
refused-uniform m base e va va' p low f s = absurd (none (sym (ap (λ (w : Walked). w.found) (walk_refused m e base va.0)) ∙ f))
  where
    none : Err Unfound.Missing ≡ Ok p → ⊥
    none q = false≢true (sym (ap is_missing q))

pub refused-plain : (m : Lent) (base : ℕ) (va : VirtualAddress) (a : Access) → lent_ok m ≡ false → plain (look_in m base) va a ≡ Answer.Refused 3
unfolding by_found
refused-plain m base va a e = ap (λ (w : Walked). (by_found va a w.reads w.found).answer) (walk_refused m e base va.0)

-- the start is what the three writes leave
module _ (rs : List ℕ) (base room len : ℕ) (e : answer_of rs base room ≡ Ok len) where
  pub base_low : base < 2 ^ 32
  base_low =
      let a = accepted rs base room len e in
      omega (arith, room-memory base room a.memory, a.fits, image-first megabytes (mappings rs))

  pub base_128 : base % 128 ≡ 0
  base_128 = omega (arith, room_unit base room (accepted rs base room len e).memory)

  pub start_is : (m : Lent) (v : ℕ) (p : Prices) (b : Bill) → TurnsOn v → start m base v p b ≡ started (start_control v) base
  start_is m v p b h = (started_in_any_order m base v p b base_low base_128 h).0
