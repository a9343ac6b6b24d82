-- Demand 2: one acknowledgement suffices, and off is virtual. Assumes nothing.
use Rattle.std.proofs.Common.{None, Some}
use Rattle.conduct.specs.Names.{◌≡◌, Bool, true, false, ℕ, ◌%◌, eqb, get_or, pick, physical, permits, word_access, word_address, Seen}
use Rattle.conduct.specs.Names.{is_prefetch, is_on, listed, stall, look, acknowledge_at, request, write, read, drop-fault, shift, Said, Access}
use Rattle.conduct.specs.Names.{VirtualAddress, Lent, Bill, Prices, Fault, Answer, Decision, Device, Outcome}
use Rattle.conduct.proofs.Names.{refl, sym, ◌∙◌, ap, subst, false≢true, eq-eqb, pick_yes, pick_no, found, command_of, by_access, metered_once}
use Rattle.conduct.proofs.Names.{decided-on, decided_by, attempt_of, retried, carried, Attempted, nothing, attempt, prefetch, attempted}
use Rattle.conduct.proofs.Names.{LowestMatch}
use Rattle.decision.specs.Decisions.{plainly}
use Rattle.decision.proofs.Joins.{decided-off}
use Rattle.unit.specs.Device.{concluded}
use Rattle.conduct.specs.Answered.{OneAcknowledgement, OffIsVirtual}
use Rattle.conduct.proofs.Writes.{write_by_lem}
use Rattle.conduct.proofs.Calls.{accepted-request, accepted-write}

module _ (m : Lent) (d : Device) (b : Bill) (p : Prices) where
  -- an attempt that a slot matches and permits
  attempt_permitted : (again : Bool) (va : VirtualAddress) (a : Access) (i : ℕ)
      → is_on d.registers.control ≡ true → LowestMatch d va i → permits (word_access (get_or d.bank.ram i 0)) a ≡ true
      → decided_by (look m d va) d va a ≡ plainly (Answer.Address (word_address (get_or d.bank.cam i 0) (get_or d.bank.ram i 0) va)) Seen.Match
  unfolding by_access
  attempt_permitted again va a i on l h =
      decided-on (look m d va) d.registers.control d.bank.cam d.bank.ram va a (Some i) on (found d.bank.cam va i l.slot l.matches l.below)
      ∙ ap (λ (r : Answer). plainly r Seen.Match) (pick_yes _ _ _ h)

  -- an acknowledgement with bit 0 of a fault that is no prefetch retries it
  acknowledged : (v : ℕ) (k : Fault) (va : VirtualAddress) (a : Access) → d.pending ≡ Some (stall k va a) → is_prefetch k ≡ false → v % 2 ≡ 1
      → carried m p b d (command_of acknowledge_at v) ≡ attempt_of m p b true d va a
  unfolding command_of listed pick
  acknowledged v k va a e n h =
      pick_yes (eqb (v % 2) 1) _ _ (eq-eqb (v % 2) 1 h) ∙ ap (retried m p b d) e ∙ pick_no (is_prefetch k) _ _ n

pub one_acknowledgement : OneAcknowledgement
one_acknowledgement m d b p v k va a i on e n l h g =
    accepted-write m p b d Answers acknowledge_at v
    (λ _. subst Answers (sym (acknowledged m d b p v k va a e n g ∙ ap (concluded p b true d va a) (attempt_permitted m d b p true va a i on l h))) (refl, refl))
  where
    Answers : Outcome → Type 0
    Answers x =
        (Said.Answered x.answer ≡ Said.Answered (Answer.Address (word_address (get_or d.bank.cam i 0) (get_or d.bank.ram i 0) va))) × (x.device.pending ≡ None)

-- off
module _ (b : Bill) (again : Bool) (va : VirtualAddress) (a : Access) where
  abbrev Virtual : Outcome → Type 0
  Virtual x = (Said.Answered x.answer ≡ Said.Answered (Answer.Address (physical va.0))) × (x.tally.words ≡ 0) × (x.bill ≡ b) × (x.device.pending ≡ None)

  abbrev Off : Attempted → Outcome → Type 0
  Off q x = q ≡ attempt again va a → Virtual x

  abbrev is_attempt : Attempted → Bool
  is_attempt nothing = false
  is_attempt (attempt t x r) = true
  is_attempt (prefetch x) = false

  no_attempt : {P : Type 0} (q : Attempted) → is_attempt q ≡ false → q ≡ attempt again va a → P
  no_attempt q n e = absurd (false≢true (sym n ∙ ap is_attempt e))

no_words : (t : Bool) → (metered_once t 0).words ≡ 0
no_words false = refl
no_words true = refl

module _ (m : Lent) (d : Device) (b : Bill) (p : Prices) (off : is_on d.registers.control ≡ false) where
  attempt-off : (t : Bool) (va : VirtualAddress) (a : Access) → Virtual b t va a (attempt_of m p b t d va a)
  attempt-off t va a =
      subst (λ (x : Decision). Virtual b t va a (concluded p b t d va a x)) (sym (decided-off (look m d va) d.registers.control d.bank.cam d.bank.ram va a off))
      (refl, no_words t, refl, refl)

  off-asked : (again : Bool) (va : VirtualAddress) (a : Access) (t : Bool) (x : VirtualAddress) (r : Access) → Off b again va a (attempt t x r) (attempt_of m p b t d x r)
  off-asked again va a t x r e =
      let q : x ≡ va = cc in
      subst (λ (y : VirtualAddress). Virtual b t y r (attempt_of m p b t d x r)) q (attempt-off t x r)

pub off-is-virtual : OffIsVirtual
off-is-virtual m d b (request x r p) again va a off e h =
    accepted-request m p b d (Virtual b again va a) x r (λ _. off-asked m d b p off again va a false x r e) h
off-is-virtual m d b (write o v p) again va a off e h =
    accepted-write m p b d (Off b again va a (attempted d (write o v p))) o v
    (write_by_lem m p b d v (Off b again va a) (no_attempt b again va a nothing refl) (no_attempt b again va a nothing refl)
    (λ x r _. off-asked m d b p off again va a true x r)
    (λ _. no_attempt b again va a (prefetch _) refl)
    o (λ _ _. no_attempt b again va a nothing refl))
    h e
off-is-virtual m d b (read o) again va a off e h = no_attempt b again va a nothing refl e
off-is-virtual m d b drop-fault again va a off e h = no_attempt b again va a nothing refl e
off-is-virtual m d b (shift x) again va a off e h = no_attempt b again va a nothing refl e
