-- Every admitted call keeps the slots in agreement, so after any of them each answer is the plain walk's. Assumes
-- nothing.
use Rattle.std.proofs.Common.{Option, Some, None}
use Rattle.coherence.specs.Names.{ℕ, ◌%◌, ◌<◌, ◌≡◌, Bool, true, false, List, [], ◌∷◌, eqb, pick, ◌and◌, is_prefetch, is_refusal, limit, is_on}
use Rattle.coherence.specs.Names.{is_walking, Access, VirtualAddress, Lent, Bill, Prices, Stall, Answer, Device, in_range, acknowledge_at}
use Rattle.coherence.specs.Names.{request_of, write_of, Call, request, write, read, drop-fault, shift, Said, step, Look}
use Rattle.coherence.proofs.Names.{arith, refl, sym, ◌∙◌, ap, subst, true≢false, eqb-true, pick_yes, InRange, listed, command_of, Command}
use Rattle.coherence.proofs.Names.{Outcome, cleared, done_with, refused_with, attempt_of, request_refusals, write_refusals, retried, carried, plain}
use Rattle.coherence.proofs.Names.{Below, Coherent, Uniform, started, look_in}
use borrow.Author.Tests.{leb-false, not-true, not-false}
use Rattle.page.proofs.Picks.{and_left, and_right}
use Rattle.bank.proofs.Ranges.{in_range_lem}
use Rattle.registers.specs.Fields.{registers_ok, pending_ok}
use Rattle.registers.proofs.Rows.{command_at}
use Rattle.unit.specs.declared.Told.{Told}
use Rattle.unit.specs.Device.{told_refused}
use Rattle.unit.specs.Calls.{read_refusals, read_of, drop_refusals, drop_of}
use Rattle.unit.specs.Machine.{Said}
use Rattle.coherence.specs.Sessions.{BilledCall, after, admitted, Admitted, asks, nothing, retried_of, asked, CacheNeverShows}
use Rattle.unit.proofs.Refusing.{refuses_by}
use Rattle.coherence.proofs.Slots.{fresh_agrees}
use Rattle.coherence.proofs.Attempts.{attempt-answers, attempt_keeps}
use Rattle.coherence.proofs.Writes.{tame, cleared_keeps, carried_keeps}

-- the slots of a device in range
bank_in-range : (d : Device) → in_range d ≡ true → InRange d.bank
unfolding in_range
bank_in-range d h = in_range_lem d.bank (and_right (pending_ok d.pending) _ (and_right (registers_ok d.registers) _ h))

module _ (m : Lent) (base : ℕ) where
  abbrev walked : Look
  walked = look_in m base

  module _ (u : Uniform limit walked) where
    abbrev Ends : Outcome → Type 0
    Ends x = Coherent walked base x.device

    abbrev ToldEnds : Told → Type 0
    ToldEnds x = Coherent walked base x.device

    -- a refused call keeps the device; any other admitted one keeps every slot in agreement
    pub step_keeps : (d : Device) (b : Bill) (c : Call) → admitted c ≡ true → Coherent walked base d → Coherent walked base (step m d b c).device
    unfolding request_of write_of read_of drop_of
    step_keeps d b (request va a p) e h =
        refuses_by (refused_with d b) _ Ends (request_refusals m p b d va) (λ k. h)
        (λ c. attempt_keeps m base u d h (bank_in-range d (not-false _ c.0)) va (leb-false _ _ c.1.0) p b false a)
    step_keeps d b (write o v p) e h =
        refuses_by (refused_with d b) _ Ends (write_refusals m p b d o v) (λ k. h)
        (λ c. carried_keeps m base u d h (bank_in-range d (not-false _ c.0)) p b (command_of o v)
        (tame v d h.walking o (not-true _ e) c.1.1.1.1.1.1.1.0))
    step_keeps d b (read o) e h = refuses_by (told_refused d) _ ToldEnds (read_refusals d o) (λ k. h) (λ c. h)
    step_keeps d b drop-fault e h = refuses_by (told_refused d) _ ToldEnds (drop_refusals d) (λ k. h) (λ c. cleared_keeps m base u d h)
    step_keeps d b (shift va) e h = h

    pub after_keeps : (cs : List BilledCall) (d : Device) → Admitted cs → Coherent walked base d → Coherent walked base (after m d cs)
    after_keeps [] d e h = h
    after_keeps (c ∷ cs) d e h = after_keeps cs (step m d c.0 c.1).device e.1 (step_keeps d c.0 c.1 e.0 h)

  -- the plain walk's answer; an answer that is no refusal should be it
  abbrev Plain : Answer → VirtualAddress → Access → Type 0
  Plain r va a = (va.0 < limit) × (r ≡ plain walked va a)

  abbrev Right : VirtualAddress → Access → Answer → Type 0
  Right va a r = is_refusal r ≡ false → Plain r va a

  abbrev RightSaid : VirtualAddress → Access → Said → Type 0
  RightSaid va a (Said.Answered r) = Right va a r
  RightSaid va a (Said.Reported s) = Unit {0}

  none-asked : {va : VirtualAddress} {a : Access} {P : Type 0} → nothing ≡ asks va a → P
  none-asked q = absurd (let z : ◌≡◌ {A = ℕ} 0 1 = cc in omega arith)

  same_asked : (r : Answer) (at va : VirtualAddress) (w a : Access) → asks at w ≡ asks va a → Plain r at w → Plain r va a
  same_asked r at va w a e h =
      let p : at ≡ va = cc in
      let q : w ≡ a = cc in
      subst (Plain r va) q (subst (λ (x : VirtualAddress). Plain r x w) p h)

  -- only an acknowledgement asks again
  asked_again : (o v : ℕ) (q : Option Stall) (va : VirtualAddress) (a : Access) → pick (eqb o acknowledge_at and eqb (v % 2) 1) (retried_of q) nothing ≡ asks va a
      → (command_of o v ≡ Command.Acknowledge true) × (retried_of q ≡ asks va a)
  unfolding pick
  asked_again o v q va a = by (eqb o acknowledge_at and eqb (v % 2) 1) refl
    where
      commands : (t : Bool) → eqb (v % 2) 1 ≡ t → command_of 0x18 v ≡ Command.Acknowledge t
      commands t e = unfold command_of in unfold listed in unfold pick in ap Command.Acknowledge e

      by : (t : Bool) → (eqb o acknowledge_at and eqb (v % 2) 1) ≡ t → pick t (retried_of q) nothing ≡ asks va a → (command_of o v ≡ Command.Acknowledge true) × (retried_of q ≡ asks va a)
      by true e h =
          (sym (command_at o 0x18 v (eqb-true _ _ (and_left _ _ e))) ∙ commands true (and_right (eqb o acknowledge_at) _ e), h)
      by false e h = none-asked h

  module _ (d : Device) (h : Coherent walked base d) (p : Prices) (b : Bill) (va : VirtualAddress) (a : Access) where
    abbrev RightOut : Outcome → Type 0
    RightOut x = Right va a x.answer

    refused_right : (k : ℕ) → RightOut (refused_with d b k)
    refused_right k n = absurd (true≢false n)

    held_right : (t : Bool) (at : VirtualAddress) (w : Access) → at.0 < limit → pick t nothing (asks at w) ≡ asks va a → RightOut (pick t (done_with b (cleared d)) (attempt_of m p b true d at w))
    unfolding pick
    held_right true at w l e = none-asked e
    held_right false at w l e = λ n. same_asked _ at va w a e (l, attempt-answers m base d h at w)

    retry_right : (q : Option Stall) → Below q → retried_of q ≡ asks va a → RightOut (retried m p b d q)
    retry_right None l e = none-asked e
    retry_right (Some s) l e = held_right (is_prefetch s.fault) s.at s.access l e

  -- a request or a retry that is not refused answers what the plain walk answers
  pub step_right : (d : Device) (b : Bill) (c : Call) (va : VirtualAddress) (a : Access) → Coherent walked base d → asked d c ≡ asks va a → RightSaid va a (step m d b c).said
  unfolding request_of write_of
  step_right d b (request at w p) va a h e =
      refuses_by (refused_with d b) _ (RightOut d h p b va a) (request_refusals m p b d at) (refused_right d h p b va a)
      (λ c n. same_asked _ at va w a e (leb-false _ _ c.1.0, attempt-answers m base d h at w))
  step_right d b (write o v p) va a h e =
      let again = asked_again o v d.pending va a e in
      refuses_by (refused_with d b) _ (RightOut d h p b va a) (write_refusals m p b d o v) (refused_right d h p b va a)
      (λ c. subst (λ (x : Command). RightOut d h p b va a (carried m p b d x)) (sym again.0)
      (subst (RightOut d h p b va a) (sym (pick_yes true _ _ refl)) (retry_right d h p b va a d.pending h.below again.1)))
  step_right d b (read o) va a h e = none-asked e
  step_right d b drop-fault va a h e = none-asked e
  step_right d b (shift at) va a h e = none-asked e

-- every slot of a started device is empty
pub coherent_started : (look : Look) (control base : ℕ) → is_on control ≡ true → is_walking control ≡ true → Coherent look base (started control base)
coherent_started look control base on walking =
    record { on = on; walking = walking; base-is = refl; lanes = fresh_agrees look; below = tt }

module _ (m : Lent) (control base : ℕ) (on : is_on control ≡ true) (walking : is_walking control ≡ true) (u : Uniform limit (look_in m base)) where
  -- after any admitted calls every slot agrees
  pub coherent_after : (cs : List BilledCall) → Admitted cs → Coherent (look_in m base) base (after m (started control base) cs)
  coherent_after cs e = after_keeps m base u cs (started control base) e (coherent_started (look_in m base) control base on walking)

  -- what the slots hold never shows
  pub cache_never_shows : CacheNeverShows m control base
  cache_never_shows cs b c va a r e q said =
      subst (RightSaid m base va a) said (step_right m base (after m (started control base) cs) b c va a (coherent_after cs e) q)
