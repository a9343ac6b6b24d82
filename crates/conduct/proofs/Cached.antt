-- Demand 2: a translation fault is never cached. Assumes nothing.
use Rattle.std.proofs.Common.{Result, Ok, Err, Option, Some, None}
use Rattle.walk.specs.declared.Unfound.{Unfound}
use Rattle.walk.specs.declared.Page.{Page}
use Rattle.conduct.specs.Names.{◌≡◌, Bool, true, false, List, ℕ, looked_up, page_at, look, cleared, request_refusals, write_refusals}
use Rattle.conduct.specs.Names.{read_refusals, drop_refusals, Call, request, write, read, drop-fault, shift, Said, step, Access, VirtualAddress}
use Rattle.conduct.specs.Names.{PhysicalAddress, Lent, Reads, Walked, Bill, Fault, Answer, Decision, Device, Outcome, Told}
use Rattle.conduct.proofs.Names.{refl, sym, ◌∙◌, ap, subst, false≢true, pick_by, entry_filled, command_of, value_at, by_access, by_found}
use Rattle.conduct.proofs.Names.{prefetch_found, prefetch_matched, prefetch_decided, told, told_refused, refused_with, decided_by, attempt_of}
use Rattle.conduct.proofs.Names.{request_of, carried, write_of, read_of, drop_of, Attempted, walks_for, refuses_by}
use Rattle.conduct.specs.Filled.{FaultNotCached}
use Rattle.conduct.proofs.Attempts.{decided_still, decided-walks}
use Rattle.conduct.proofs.Writes.{write_by_lem}

abbrev is_translation : Fault → Bool
is_translation Fault.Translation = true
is_translation Fault.Miss = false
is_translation Fault.Permission = false
is_translation Fault.Prefetch = false

abbrev is_unmapped : Answer → Bool
is_unmapped (Answer.Address x) = false
is_unmapped (Answer.Fault k) = is_translation k
is_unmapped (Answer.Value x) = false
is_unmapped Answer.Done = false
is_unmapped (Answer.Refused k) = false

-- a decision that answers a translation fault fills nothing
abbrev Uncached : Decision → Type 0
Uncached x = is_unmapped x.answer ≡ true → x.fill ≡ None

access_mapped : (bits : ℕ) (at : PhysicalAddress) (a : Access) → is_unmapped (by_access bits at a) ≡ false
unfolding by_access
access_mapped bits at a = pick_by (λ (r : Answer). is_unmapped r ≡ false) _ _ _ (λ _. refl) (λ _. refl)

found_uncached : (va : VirtualAddress) (a : Access) (r : Reads) (f : Result Page Unfound) → Uncached (by_found va a r f)
unfolding by_found
found_uncached va a r (Err Unfound.Missing) = λ _. refl
found_uncached va a r (Err Unfound.NoPage) = λ _. refl
found_uncached va a r (Ok p) = λ e. absurd (false≢true (sym (access_mapped p.access _ a) ∙ e))

attempt_uncached : (m : Lent) (d : Device) (va : VirtualAddress) (a : Access) → Uncached (decided_by (look m d va) d va a)
attempt_uncached m d va a = by (walks_for d va) refl
  where
    by : (t : Bool) → walks_for d va ≡ t → Uncached (decided_by (look m d va) d va a)
    by false e = λ _. (decided_still m d va a e).0
    by true e = subst Uncached (sym (decided-walks m d va a e)) (found_uncached va a (look m d va).reads (look m d va).found)

prefetch_found_uncached : (va : VirtualAddress) (r : Reads) (f : Result Page Unfound) → Uncached (prefetch_found va r f)
unfolding prefetch_found
prefetch_found_uncached va r (Err Unfound.Missing) = λ _. refl
prefetch_found_uncached va r (Err Unfound.NoPage) = λ _. refl
prefetch_found_uncached va r (Ok p) = λ e. absurd (false≢true e)

prefetch_matched_uncached : (w : Walked) (va : VirtualAddress) (x : Option ℕ) → Uncached (prefetch_matched w va x)
prefetch_matched_uncached w va (Some i) = λ _. refl
prefetch_matched_uncached w va None = prefetch_found_uncached va w.reads w.found

prefetch_uncached : (w : Walked) (cam : List ℕ) (va : VirtualAddress) → Uncached (prefetch_decided w cam va)
unfolding prefetch_decided
prefetch_uncached w cam va = prefetch_matched_uncached w va (looked_up cam va)

abbrev said_unmapped : Said → Bool
said_unmapped (Said.Answered r) = is_unmapped r
said_unmapped (Said.Reported s) = false

module _ (d : Device) where
  abbrev Kept : Outcome → Type 0
  Kept x = is_unmapped x.answer ≡ true → x.device.bank ≡ d.bank

  abbrev Same : Told → Type 0
  Same t = t.device.bank ≡ d.bank

uncached : (m : Lent) (d : Device) (b : Bill) (c : Call) → said_unmapped (step m d b c).said ≡ true → (step m d b c).device.bank ≡ d.bank
unfolding request_of write_of read_of drop_of
uncached m d b (request va a p) =
    refuses_by (refused_with d b) (attempt_of m p b false d va a) (Kept d) (request_refusals m p b d va) (λ k _. refl)
    (λ _ e. ap (entry_filled d.bank) (attempt_uncached m d va a e))
uncached m d b (write o v p) =
    refuses_by (refused_with d b) (carried m p b d (command_of o v)) (Kept d) (write_refusals m p b d o v) (λ k _. refl)
    (write_by_lem m p b d v (λ (q : Attempted). Kept d) (λ _. refl) (λ _. refl)
    (λ va a _ e. ap (entry_filled d.bank) (attempt_uncached m d va a e))
    (λ _ e. ap (entry_filled d.bank) (prefetch_uncached (look m d (page_at v)) d.bank.cam (page_at v) e))
    o (λ _ _ e. absurd (false≢true e)))
uncached m d b (read o) =
    λ _. refuses_by (told_refused d) (told d (value_at o d.registers d.bank.lock d.bank.victim d.pending)) (Same d) (read_refusals d o) (λ k. refl) (λ _. refl)
uncached m d b drop-fault =
    λ _. refuses_by (told_refused d) (told (cleared d) Answer.Done) (Same d) (drop_refusals d) (λ k. refl) (λ _. refl)
uncached m d b (shift va) = λ _. refl

pub fault-not_cached : FaultNotCached
fault-not_cached m d b c e = uncached m d b c (ap said_unmapped e)
