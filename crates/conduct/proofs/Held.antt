-- Demand 2: what is pending after each call. Assumes nothing.
use Rattle.std.proofs.Common.{Result, Ok, Err, Option, Some, None}
use Rattle.walk.specs.declared.Unfound.{Unfound}
use Rattle.walk.specs.declared.Page.{Page}
use Rattle.conduct.specs.Names.{◌≡◌, Bool, true, false, List, ℕ, ◌%◌, eqb, looked_up, is_refusal, is_prefetch, listed, page_at, pick, Clear, look}
use Rattle.conduct.specs.Names.{cleared, done_with, prefetch_at, acknowledge_at, request_refusals, write_refusals, read_refusals, drop_refusals}
use Rattle.conduct.specs.Names.{request, write, read, drop-fault, shift, Said, step_out, Access, VirtualAddress, Lent, Reads, Walked}
use Rattle.conduct.specs.Names.{Bill, Prices, Fault, Stall, stall, Answer, Device, Outcome, Told}
use Rattle.conduct.proofs.Names.{refl, sym, ◌∙◌, ap, true≢false, false≢true, arith, eq-eqb, ne_eqb, command_of, value_at, by_offset, settled}
use Rattle.conduct.proofs.Names.{prefetch_found, prefetch_matched, prefetch_decided, pick_yes, pick_no, told, told_refused, refused_with, decided_by}
use Rattle.conduct.proofs.Names.{attempt_of, request_of, retried, carried, write_of, read_of, drop_of, refuses_by, said_refused, Attempted, nothing}
use Rattle.conduct.proofs.Names.{attempt, prefetch, attempted}
use Rattle.conduct.specs.Held.{HeldBy, FaultHeld, FaultDropped}
use Rattle.conduct.proofs.Attempts.{is_met}
use Rattle.conduct.proofs.Writes.{write_by_lem}
use Rattle.conduct.proofs.Calls.{accepted-write}

-- an answer that is neither an address nor a fault
abbrev said_met : Said → Bool
said_met (Said.Answered r) = is_met r
said_met (Said.Reported s) = false

module _ (q : Attempted) (s : Said) (n : said_met s ≡ false) where
  unmet : {P : Type 0} (r : Answer) → is_met r ≡ true → s ≡ Said.Answered r → P
  unmet r h e = absurd (true≢false (sym h ∙ sym (ap said_met e) ∙ n))

  -- where such an answer leaves what is pending, that is as said
  still : (before : Option Stall) → HeldBy q before before s
  still before = record {
    fault = λ again va a k _ e. unmet (Answer.Fault k) refl e;
    prefetched = λ va k _ e. unmet (Answer.Fault k) refl e;
    address = λ x e. unmet (Answer.Address x) refl e;
    refused = λ _. refl;
  }

  -- and where it is no refusal, whatever it leaves
  quiet : said_refused s ≡ false → (before after : Option Stall) → HeldBy q before after s
  quiet f before after = record {
    fault = λ again va a k _ e. unmet (Answer.Fault k) refl e;
    prefetched = λ va k _ e. unmet (Answer.Fault k) refl e;
    address = λ x e. unmet (Answer.Address x) refl e;
    refused = λ h. absurd (true≢false (sym h ∙ f));
  }

module _ (va : VirtualAddress) (a : Access) (q : Option Stall) where
  settled-fault : (r : Answer) (k : Fault) → r ≡ Answer.Fault k → settled va a q r ≡ Some (stall k va a)
  settled-fault r k e = ap (settled va a q) e

  settled-refused : (r : Answer) → is_refusal r ≡ true → settled va a q r ≡ q
  settled-refused (Answer.Address x) h = absurd (false≢true h)
  settled-refused (Answer.Fault k) h = absurd (false≢true h)
  settled-refused (Answer.Value x) h = refl
  settled-refused Answer.Done h = refl
  settled-refused (Answer.Refused k) h = refl

  attempt-held : (again : Bool) (r : Answer) → HeldBy (attempt again va a) q (settled va a q r) (Said.Answered r)
  attempt-held again r = record {
    fault = λ t x y k g e. by t x y k g (let z : r ≡ Answer.Fault k = cc in z);
    prefetched = λ x k g e. (cc, cc);
    address = λ x e. ap (settled va a q) (let z : r ≡ Answer.Address x = cc in z);
    refused = settled-refused r;
  }
    where
      by : (t : Bool) (x : VirtualAddress) (y : Access) (k : Fault) → attempt again va a ≡ attempt t x y → r ≡ Answer.Fault k → settled va a q r ≡ Some (stall k x y)
      by t x y k g e = settled-fault r k e ∙ (let u : va ≡ x = cc in let w : a ≡ y = cc in cc)

-- a prefetch answers 24, or nothing
abbrev Fetches : Answer → Type 0
Fetches (Answer.Address x) = ⊥
Fetches (Answer.Fault k) = k ≡ Fault.Prefetch
Fetches (Answer.Value x) = Unit {0}
Fetches Answer.Done = Unit {0}
Fetches (Answer.Refused k) = Unit {0}

found_fetches : (va : VirtualAddress) (r : Reads) (f : Result Page Unfound) → Fetches (prefetch_found va r f).answer
unfolding prefetch_found
found_fetches va r (Err Unfound.Missing) = tt
found_fetches va r (Err Unfound.NoPage) = refl
found_fetches va r (Ok p) = tt

matched_fetches : (w : Walked) (va : VirtualAddress) (x : Option ℕ) → Fetches (prefetch_matched w va x).answer
matched_fetches w va (Some i) = tt
matched_fetches w va None = found_fetches va w.reads w.found

fetches : (w : Walked) (cam : List ℕ) (va : VirtualAddress) → Fetches (prefetch_decided w cam va).answer
unfolding prefetch_decided
fetches w cam va = matched_fetches w va (looked_up cam va)

prefetch-held : (va : VirtualAddress) (q : Option Stall) (r : Answer) → Fetches r → HeldBy (prefetch va) q (settled va Access.Read q r) (Said.Answered r)
prefetch-held va q (Answer.Address x) f = absurd f
prefetch-held va q (Answer.Value x) f = still (prefetch va) (Said.Answered (Answer.Value x)) refl q
prefetch-held va q Answer.Done f = still (prefetch va) (Said.Answered Answer.Done) refl q
prefetch-held va q (Answer.Refused k) f = still (prefetch va) (Said.Answered (Answer.Refused k)) refl q
prefetch-held va q (Answer.Fault j) f = record {
  fault = λ t x y k g e. cc;
  prefetched = λ x k g e. (let u : j ≡ k = cc in sym u ∙ f, let w : va ≡ x = cc in cc);
  address = λ x e. cc;
  refused = λ h. absurd (false≢true h);
}

read_still : (d : Device) (o : ℕ) → Clear (read_refusals d o) → is_met (value_at o d.registers d.bank.lock d.bank.victim d.pending) ≡ false
unfolding value_at listed pick
read_still d =
    by_offset (λ (o : ℕ). Clear (read_refusals d o) → is_met (value_at o d.registers d.bank.lock d.bank.victim d.pending) ≡ false)
    (λ _. refl) (λ _. refl) (λ _. refl) (λ _. refl) (λ _. refl) (λ _. refl) (λ _. refl)
    (λ _. refl) (λ _. refl) (λ _. refl) (λ _. refl) (λ _. refl) (λ _. refl) (λ _. refl)
    (λ _. refl) (λ _. refl) (λ _. refl) (λ _. refl) (λ _. refl) (λ _. refl) (λ _. refl)
    (λ o e c. absurd (true≢false (sym e ∙ c.1.0)))

module _ (d : Device) where
  abbrev Holds : Attempted → Outcome → Type 0
  Holds q x = HeldBy q d.pending x.device.pending (Said.Answered x.answer)

  abbrev Tells : Told → Type 0
  Tells t = HeldBy nothing d.pending t.device.pending (Said.Answered t.answer)

  done : (x : Option Stall) → HeldBy nothing d.pending x (Said.Answered Answer.Done)
  done x = quiet nothing (Said.Answered Answer.Done) refl refl d.pending x

pub fault-held : FaultHeld
unfolding request_of write_of read_of drop_of
fault-held m d b (request va a p) =
    refuses_by (refused_with d b) (attempt_of m p b false d va a) (Holds d (attempt false va a)) (request_refusals m p b d va)
    (λ k. still (attempt false va a) (Said.Answered (Answer.Refused k)) refl d.pending)
    (λ _. attempt-held va a d.pending false (decided_by (look m d va) d va a).answer)
fault-held m d b (write o v p) =
    refuses_by (refused_with d b) (carried m p b d (command_of o v)) (Holds d (attempted d (write o v p))) (write_refusals m p b d o v)
    (λ k. still (attempted d (write o v p)) (Said.Answered (Answer.Refused k)) refl d.pending)
    (write_by_lem m p b d v (Holds d) (done d _) (done d _)
    (λ va a _. attempt-held va a d.pending true (decided_by (look m d va) d va a).answer)
    (λ _. prefetch-held (page_at v) d.pending _ (fetches (look m d (page_at v)) d.bank.cam (page_at v)))
    o (λ _ d'. done d d'.pending))
fault-held m d b (read o) =
    refuses_by (told_refused d) (told d (value_at o d.registers d.bank.lock d.bank.victim d.pending)) (Tells d) (read_refusals d o)
    (λ k. still nothing (Said.Answered (Answer.Refused k)) refl d.pending)
    (λ c. still nothing (Said.Answered (value_at o d.registers d.bank.lock d.bank.victim d.pending)) (read_still d o c) d.pending)
fault-held m d b drop-fault =
    refuses_by (told_refused d) (told (cleared d) Answer.Done) (Tells d) (drop_refusals d)
    (λ k. still nothing (Said.Answered (Answer.Refused k)) refl d.pending)
    (λ _. done d None)
fault-held m d b (shift va) = still nothing (Said.Reported _) refl d.pending

module _ (m : Lent) (p : Prices) (b : Bill) (d : Device) (v : ℕ) where
  -- an acknowledgement by its bit 0
  acknowledge_bit : (t : Bool) → eqb (v % 2) 1 ≡ t → carried m p b d (command_of acknowledge_at v) ≡ pick t (retried m p b d d.pending) (done_with b d)
  unfolding command_of listed pick
  acknowledge_bit t e = ap (λ (x : Bool). pick x (retried m p b d d.pending) (done_with b d)) e

  dropped-prefetch : (va : VirtualAddress) (a : Access) → d.pending ≡ Some (stall Fault.Prefetch va a) → v % 2 ≡ 1 → carried m p b d (command_of acknowledge_at v) ≡ done_with b (cleared d)
  dropped-prefetch va a e h =
      acknowledge_bit true (eq-eqb (v % 2) 1 h) ∙ pick_yes true _ _ refl ∙ ap (retried m p b d) e ∙ pick_yes (is_prefetch Fault.Prefetch) _ _ refl

  bit_clear : v % 2 ≡ 0 → carried m p b d (command_of acknowledge_at v) ≡ done_with b d
  bit_clear h = acknowledge_bit false (ne_eqb (v % 2) 1 (λ q. omega (arith, q, h))) ∙ pick_no false _ _ refl

  done-kept : (r : Answer) → Said.Answered r ≡ Said.Answered Answer.Done → settled (page_at v) Access.Read d.pending r ≡ d.pending
  done-kept r e = ap (settled (page_at v) Access.Read d.pending) (let z : r ≡ Answer.Done = cc in z)

  found-kept : (x : Outcome) → x ≡ carried m p b d (command_of prefetch_at v) → Said.Answered x.answer ≡ Said.Answered Answer.Done → x.device.pending ≡ d.pending
  unfolding command_of listed pick
  found-kept x e h =
      ap (λ (y : Outcome). y.device.pending) e
      ∙ done-kept (prefetch_decided (look m d (page_at v)) d.bank.cam (page_at v)).answer (sym (ap (λ (y : Outcome). Said.Answered y.answer) e) ∙ h)

pub fault-dropped : FaultDropped
unfolding write_of drop_of
fault-dropped m d b = record {
  drop =
      refuses_by (told_refused d) (told (cleared d) Answer.Done) (λ (t : Told). is_refusal t.answer ≡ false → t.device.pending ≡ None) (drop_refusals d)
      (λ k h. absurd (true≢false h)) (λ _ _. refl);
  acknowledged = λ va a v p e h g.
      ap step_out (accepted-write m p b d (λ (x : Outcome). x ≡ done_with b (cleared d)) acknowledge_at v (λ _. dropped-prefetch m p b d v va a e h) g);
  idle-bit = λ v p h.
      refuses_by (refused_with d b) (carried m p b d (command_of acknowledge_at v)) (λ (x : Outcome). x.device ≡ d) (write_refusals m p b d acknowledge_at v)
      (λ k. refl) (λ _. ap (λ (x : Outcome). x.device) (bit_clear m p b d v h));
  found = λ v p.
      refuses_by (refused_with d b) (carried m p b d (command_of prefetch_at v))
      (λ (x : Outcome). Said.Answered x.answer ≡ Said.Answered Answer.Done → x.device.pending ≡ d.pending) (write_refusals m p b d prefetch_at v)
      (λ k _. refl) (λ _. found-kept m p b d v (carried m p b d (command_of prefetch_at v)) refl);
}
