-- Demand 2: what a request or a retry answers while the unit is on, a prefetch and a shift report. Assumes nothing.
use Rattle.decision.specs.declared.ShiftError.{ShiftError}
use Rattle.std.proofs.Common.{Result, Ok, Err, Option, Some, None}
use Rattle.walk.specs.declared.Unfound.{Unfound}
use Rattle.conduct.specs.Names.{◌≡◌, Bool, true, false, not, ℕ, ◌<◌, get_or, pick, limit, permits, word_access, word_address, physical_of, slots}
use Rattle.conduct.specs.Names.{looked_up, is_refusal, is_on, is_walking, listed, Fault, Answer, page_at, in_range, look, cleared, prefetch_at}
use Rattle.conduct.specs.Names.{no_match, drop_refusals, request, write, read, drop-fault, shift, Said, Access, VirtualAddress, PhysicalAddress}
use Rattle.conduct.specs.Names.{Lent, lent_ok, Reads, Page, Bill, Prices, Decision, Device, Outcome, Told}
use Rattle.conduct.proofs.Names.{refl, sym, ◌∙◌, ap, subst, true≢false, false≢true, pick_yes, pick_no, is_missing, found, command_of, by_access}
use Rattle.conduct.proofs.Names.{by_found, prefetch_found, prefetch_matched, prefetch_decided, shift_by, decided-on, refuses, told, told_refused}
use Rattle.conduct.proofs.Names.{decided_by, attempt_of, lacks, write_of, drop_of, shift_of, refuses_by, Accepted, Attempted, nothing, attempt}
use Rattle.conduct.proofs.Names.{prefetch, attempted, LowestMatch}
use borrow.Author.Tests.{lt-leb}
use Rattle.lanes.proofs.Searches.{lowest, Lowest}
use Rattle.decision.proofs.Joins.{decided-miss, decided-walk}
use Rattle.conduct.specs.Answered.{NoSlot, WalkAnswers, OnAnswers, AnswersOn, PrefetchAnswers, PrefetchAnswered, ShiftTells, ShiftAnswered}
use Rattle.conduct.specs.Answered.{done, NothingSaid}
use Rattle.conduct.proofs.Tests.{rest}
use Rattle.conduct.proofs.Writes.{write_by_lem}
use Rattle.conduct.proofs.Calls.{accepted-request, accepted-write}

-- a search that no slot answers finds nothing
no_slot : (d : Device) (va : VirtualAddress) → NoSlot d va → looked_up d.bank.cam va ≡ None
no_slot d va n = by (looked_up d.bank.cam va) (lowest d.bank.cam va)
  where
    by : (x : Option ℕ) → Lowest d.bank.cam va slots 0 x → x ≡ None
    by (Some k) h = absurd (true≢false (sym h.1.0 ∙ n k h.0))
    by None h = refl

-- an access that is permitted answers the byte, one that is not 23
module _ (bits : ℕ) (at : PhysicalAddress) (a : Access) where
  access_yes : permits bits a ≡ true → by_access bits at a ≡ Answer.Address at
  unfolding by_access
  access_yes h = pick_yes _ _ _ h

  access_no : permits bits a ≡ false → by_access bits at a ≡ Answer.Fault Fault.Permission
  unfolding by_access
  access_no h = pick_no _ _ _ h

-- what is found is what is answered
module _ (va : VirtualAddress) (a : Access) (r : Reads) where
  found-answers : (f : Result Page Unfound) → is_missing f ≡ false → WalkAnswers f va a (Said.Answered (by_found va a r f).answer)
  unfolding by_found
  found-answers (Err Unfound.Missing) h = absurd (true≢false h)
  found-answers (Err Unfound.NoPage) h = record { byte = λ g e t. cc; refused = λ g e t. cc; none = λ _. refl; there = λ e. absurd (false≢true (ap is_missing e)) }
  found-answers (Ok p) h = record {
    byte = λ g e t. let q : p ≡ g = cc in ap Said.Answered (access_yes _ _ a (ap (λ (x : Page). permits x.access a) q ∙ t) ∙ ap (λ (x : Page). Answer.Address (physical_of x va)) q);
    refused = λ g e t. let q : p ≡ g = cc in ap Said.Answered (access_no _ _ a (ap (λ (x : Page). permits x.access a) q ∙ t));
    none = λ e. cc;
    there = λ e. absurd (false≢true (ap is_missing e));
  }

module _ (m : Lent) (d : Device) (va : VirtualAddress) (a : Access) (on : is_on d.registers.control ≡ true) (h : lacks m d va ≡ false) where
  abbrev x : Decision
  x = decided_by (look m d va) d va a

  at_slot : (i : ℕ) → LowestMatch d va i → x.answer ≡ by_access (word_access (get_or d.bank.ram i 0)) (word_address (get_or d.bank.cam i 0) (get_or d.bank.ram i 0) va) a
  at_slot i l =
      ap (λ (y : Decision). y.answer)
      (decided-on (look m d va) d.registers.control d.bank.cam d.bank.ram va a (Some i) on (found d.bank.cam va i l.slot l.matches l.below))

  is-there : NoSlot d va → is_walking d.registers.control ≡ true → is_missing (look m d va).found ≡ false
  unfolding lacks
  is-there n w = rest _ _ w (rest _ _ (ap no_match (no_slot d va n)) (rest _ _ on h))

  on-answers : OnAnswers m d va a (Said.Answered x.answer)
  on-answers = record {
    match = λ i l. record {
      byte = λ t. ap Said.Answered (at_slot i l ∙ access_yes _ _ a t);
      refused = λ t. ap Said.Answered (at_slot i l ∙ access_no _ _ a t);
    };
    miss = λ n w. ap (λ (y : Decision). Said.Answered y.answer) (decided-miss (look m d va) d.registers.control d.bank.cam d.bank.ram va a on (no_slot d va n) w);
    walk = λ n w.
        subst (λ (y : Decision). WalkAnswers (look m d va).found va a (Said.Answered y.answer))
        (sym (decided-walk (look m d va) d.registers.control d.bank.cam d.bank.ram va a on (no_slot d va n) w))
        (found-answers va a (look m d va).reads (look m d va).found (is-there n w));
  }

module _ (m : Lent) (d : Device) (b : Bill) (p : Prices) (on : is_on d.registers.control ≡ true) (again : Bool) (va : VirtualAddress) (a : Access) where
  abbrev On : Attempted → Outcome → Type 0
  On q o = q ≡ attempt again va a → OnAnswers m d va a (Said.Answered o.answer)

  asked-answers : (t : Bool) (x : VirtualAddress) (r : Access) → lacks m d x ≡ false → On (attempt t x r) (attempt_of m p b t d x r)
  asked-answers t x r h e =
      let q : x ≡ va = cc in
      let s : r ≡ a = cc in
      subst (λ (z : Access). OnAnswers m d va z (Said.Answered (decided_by (look m d x) d x r).answer)) s
      (subst (λ (y : VirtualAddress). OnAnswers m d y r (Said.Answered (decided_by (look m d x) d x r).answer)) q (on-answers m d x r on h))

abbrev is_attempt : Attempted → Bool
is_attempt nothing = false
is_attempt (attempt t x r) = true
is_attempt (prefetch x) = false

no_attempt : {P : Type 0} (again : Bool) (va : VirtualAddress) (a : Access) (q : Attempted) → is_attempt q ≡ false → q ≡ attempt again va a → P
no_attempt again va a q n e = absurd (false≢true (sym n ∙ ap is_attempt e))

pub answers-on : AnswersOn
answers-on m d b (request x r p) again va a on e h =
    accepted-request m p b d (λ (o : Outcome). OnAnswers m d va a (Said.Answered o.answer)) x r
    (λ c. asked-answers m d b p on again va a false x r c.1.1.1.1.1.0 e) h
answers-on m d b (write o v p) again va a on e h =
    accepted-write m p b d (On m d b p on again va a (attempted d (write o v p))) o v
    (write_by_lem m p b d v (On m d b p on again va a) (no_attempt again va a nothing refl) (no_attempt again va a nothing refl)
    (λ x r n. asked-answers m d b p on again va a true x r n)
    (λ _. no_attempt again va a (prefetch _) refl)
    o (λ _ _. no_attempt again va a nothing refl))
    h e
answers-on m d b (read o) again va a on e h = no_attempt again va a nothing refl e
answers-on m d b drop-fault again va a on e h = no_attempt again va a nothing refl e
answers-on m d b (shift x) again va a on e h = no_attempt again va a nothing refl e

-- a prefetch
module _ (m : Lent) (d : Device) (va : VirtualAddress) where
  matched_answers : (x : Option ℕ) → looked_up d.bank.cam va ≡ x → (prefetch_decided (look m d va) d.bank.cam va).answer ≡ (prefetch_matched (look m d va) va x).answer
  unfolding prefetch_decided
  matched_answers x e = ap (λ (y : Option ℕ). (prefetch_matched (look m d va) va y).answer) e

  walk-answers : NoSlot d va → (f : Result Page Unfound) → (look m d va).found ≡ f → (prefetch_decided (look m d va) d.bank.cam va).answer ≡ (prefetch_found va (look m d va).reads f).answer
  walk-answers n f e = matched_answers None (no_slot d va n) ∙ ap (λ (y : Result Page Unfound). (prefetch_found va (look m d va).reads y).answer) e

  fetch_answers : PrefetchAnswers m d va (Said.Answered (prefetch_decided (look m d va) d.bank.cam va).answer)
  unfolding prefetch_found
  fetch_answers = record {
    match = λ i l. ap Said.Answered (matched_answers (Some i) (found d.bank.cam va i l.slot l.matches l.below));
    page = λ g n e. ap Said.Answered (walk-answers n (Ok g) e);
    none = λ n e. ap Said.Answered (walk-answers n (Err Unfound.NoPage) e);
  }

pub prefetch-answered : PrefetchAnswered
unfolding command_of listed pick
prefetch-answered m d b v p =
    accepted-write m p b d (λ (x : Outcome). PrefetchAnswers m d (page_at v) (Said.Answered x.answer)) prefetch_at v (λ _. fetch_answers m d (page_at v))

-- a shift report
found_tells : (va : VirtualAddress) (f : Result Page Unfound) → ShiftTells va f (pick (is_missing f) (Err (ShiftError.Refused 3)) (shift_by va f))
unfolding pick
found_tells va (Ok g) = record { number = refl; values = refl }
found_tells va (Err Unfound.NoPage) = record { number = refl; values = refl }
found_tells va (Err Unfound.Missing) = record { number = refl; values = refl }

shift_is :
    (m : Lent) (d : Device) (va : VirtualAddress) → in_range d ≡ true → va.0 < limit → lent_ok m ≡ true
    → shift_of m d va ≡ pick (is_missing (look m d va).found) (Err (ShiftError.Refused 3)) (shift_by va (look m d va).found)
unfolding shift_of refuses
shift_is m d va r l o = pick_no _ _ _ (ap not r) ∙ pick_no _ _ _ (lt-leb limit va.0 l) ∙ pick_no _ _ _ (ap not o)

pub shift-answered : ShiftAnswered
shift-answered m d b va s r l o e =
    subst (ShiftTells va (look m d va).found) (let z : shift_of m d va ≡ s = cc in sym (shift_is m d va r l o) ∙ z) (found_tells va (look m d va).found)

-- a write that asks for no address
module _ (m : Lent) (d : Device) (b : Bill) (p : Prices) where
  abbrev Quiet : Attempted → Outcome → Type 0
  Quiet q x = q ≡ nothing → Said.Answered x.answer ≡ done

  abbrev is_asked : Attempted → Bool
  is_asked nothing = false
  is_asked (attempt t x r) = true
  is_asked (prefetch x) = true

  asks-some : {P : Type 0} (q : Attempted) → is_asked q ≡ true → q ≡ nothing → P
  asks-some q n e = absurd (true≢false (sym n ∙ ap is_asked e))

  write_says : (o v : ℕ) → attempted d (write o v p) ≡ nothing → Accepted m d b (write o v p) → Said.Answered (write_of m p b d o v).answer ≡ done
  write_says o v e h =
      accepted-write m p b d (Quiet (attempted d (write o v p))) o v
      (write_by_lem m p b d v Quiet (λ _. refl) (λ _. refl) (λ va a _. asks-some (attempt true va a) refl) (λ _. asks-some (prefetch (page_at v)) refl) o (λ _ _ _. refl))
      h e

pub nothing_said : NothingSaid
unfolding drop_of
nothing_said m d b = record {
  write = λ o v p. write_says m d b p o v;
  dropped =
      refuses_by (told_refused d) (told (cleared d) Answer.Done) (λ (t : Told). is_refusal t.answer ≡ false → Said.Answered t.answer ≡ done) (drop_refusals d)
      (λ k h. absurd (true≢false h)) (λ _ _. refl);
}
