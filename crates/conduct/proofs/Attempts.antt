-- What a request, a retry or a prefetch comes to, by the plain walk of its address. Assumes nothing.
use Rattle.std.proofs.Common.{Result, Ok, Err, Option, Some, None}
use Rattle.walk.specs.declared.Unfound.{Unfound}
use Rattle.walk.specs.declared.Page.{Page}
use Rattle.conduct.specs.Names.{◌≡◌, Bool, true, false, List, ℕ, get_or, pick, ◌and◌, word_access, looked_up, is_refusal, is_on, is_walking}
use Rattle.conduct.specs.Names.{look, no_match, Access, VirtualAddress, PhysicalAddress, Lent, Reads, Walked, Seen, Answer}
use Rattle.conduct.specs.Names.{Decision, Device}
use Rattle.conduct.proofs.Names.{refl, sym, ◌∙◌, ap, true≢false, false≢true, pick_yes, pick_no, pick_by, and_left, and_right, is_missing}
use Rattle.conduct.proofs.Names.{by_access, by_found, by_matched, decided, metered_once, decided-on, decided_by, lacks, walks_for, reads_for}
use Rattle.conduct.proofs.Names.{page_fill, fill_for, seen_for}
use Rattle.decision.specs.Decisions.{by_walk, tally_of}
use Rattle.conduct.proofs.Tests.{rest, pick-both}

-- an address or a fault: what the meters count
abbrev pub is_met : Answer → Bool
is_met (Answer.Address x) = true
is_met (Answer.Fault k) = true
is_met (Answer.Value x) = false
is_met Answer.Done = false
is_met (Answer.Refused k) = false

pub met_no_refusal : (r : Answer) → is_met r ≡ true → is_refusal r ≡ false
met_no_refusal (Answer.Address x) h = refl
met_no_refusal (Answer.Fault k) h = refl
met_no_refusal (Answer.Value x) h = refl
met_no_refusal Answer.Done h = refl
met_no_refusal (Answer.Refused k) h = sym h

pub met_tally : (again : Bool) (n : ℕ) (r : Answer) → is_met r ≡ true → tally_of again n r ≡ metered_once again n
met_tally again n (Answer.Address x) h = refl
met_tally again n (Answer.Fault k) h = refl
met_tally again n (Answer.Value x) h = absurd (false≢true h)
met_tally again n Answer.Done h = absurd (false≢true h)
met_tally again n (Answer.Refused k) h = absurd (false≢true h)

-- a page, or none, is a decision that fills, reads and is seen so
found_fill : (va : VirtualAddress) (a : Access) (r : Reads) (f : Result Page Unfound) → (by_found va a r f).fill ≡ page_fill va f
unfolding by_found
found_fill va a r (Err Unfound.Missing) = refl
found_fill va a r (Err Unfound.NoPage) = refl
found_fill va a r (Ok p) = refl

access_met : (bits : ℕ) (at : PhysicalAddress) (a : Access) → is_met (by_access bits at a) ≡ true
unfolding by_access
access_met bits at a = pick_by (λ (r : Answer). is_met r ≡ true) _ _ _ (λ _. refl) (λ _. refl)

module _ (va : VirtualAddress) (a : Access) (r : Reads) where
  found_met : (f : Result Page Unfound) → is_missing f ≡ false → is_met (by_found va a r f).answer ≡ true
  unfolding by_found
  found_met (Err Unfound.Missing) h = absurd (true≢false h)
  found_met (Err Unfound.NoPage) h = refl
  found_met (Ok p) h = access_met p.access _ a

  found_reads : (f : Result Page Unfound) → is_missing f ≡ false → (by_found va a r f).reads ≡ r
  unfolding by_found
  found_reads (Err Unfound.Missing) h = absurd (true≢false h)
  found_reads (Err Unfound.NoPage) h = refl
  found_reads (Ok p) h = refl

  found_seen : (f : Result Page Unfound) → is_missing f ≡ false → (by_found va a r f).seen ≡ Seen.NoMatch
  unfolding by_found
  found_seen (Err Unfound.Missing) h = absurd (true≢false h)
  found_seen (Err Unfound.NoPage) h = refl
  found_seen (Ok p) h = refl

-- a decision that neither fills nor reads
abbrev pub Still : Decision → Type 0
Still x = (x.fill ≡ None) × (x.reads ≡ Reads.Nothing)

module _ (w : Walked) (c : ℕ) (cam ram : List ℕ) (va : VirtualAddress) (a : Access) where
  abbrev by : Option ℕ → Decision
  by x = by_matched w c cam ram va a x

  matched_met : (x : Option ℕ) → (no_match x and is_walking c and is_missing w.found) ≡ false → is_met (by x).answer ≡ true
  matched_met (Some i) h = access_met (word_access (get_or ram i 0)) _ a
  matched_met None h =
      pick_by (λ (x : Decision). is_met x.answer ≡ true) _ _ _
      (λ e. found_met va a w.reads w.found (rest _ _ e (rest true _ refl h))) (λ _. refl)

  matched_seen : (x : Option ℕ) → (no_match x and is_walking c and is_missing w.found) ≡ false → (by x).seen ≡ pick (no_match x) Seen.NoMatch Seen.Match
  matched_seen (Some i) h = sym (pick_no _ _ _ refl)
  matched_seen None h =
      pick_by (λ (x : Decision). x.seen ≡ Seen.NoMatch) _ _ _
      (λ e. found_seen va a w.reads w.found (rest _ _ e (rest true _ refl h))) (λ _. refl)
      ∙ sym (pick_yes _ _ _ refl)

  matched_still : (x : Option ℕ) → (no_match x and is_walking c) ≡ false → Still (by x)
  matched_still (Some i) h = (refl, refl)
  matched_still None h = pick_by Still _ _ _ (λ e. absurd (true≢false (sym e ∙ rest true _ refl h))) (λ _. (refl, refl))

  matched_walks : (x : Option ℕ) → (no_match x and is_walking c) ≡ true → by x ≡ by_walk va a w
  matched_walks (Some i) h = absurd (false≢true (and_left false _ h))
  matched_walks None h = pick_yes _ _ _ (and_right true _ h)

module _ (m : Lent) (d : Device) (va : VirtualAddress) where
  -- a decision fills what the walk for the address finds and reads its words
  pub record Does (x : Decision) : Type 0 where
    pub fill : x.fill ≡ fill_for m d va
    pub reads : x.reads ≡ reads_for m d va

  pub does_still : walks_for d va ≡ false → (x : Decision) → Still x → Does x
  unfolding fill_for reads_for
  does_still h x s = record { fill = s.0 ∙ sym (pick_no _ _ _ h); reads = s.1 ∙ sym (pick_no _ _ _ h) }

  pub does_walk : walks_for d va ≡ true → (x : Decision) → x.fill ≡ page_fill va (look m d va).found → x.reads ≡ (look m d va).reads → Does x
  unfolding fill_for reads_for
  does_walk h x e f = record { fill = e ∙ sym (pick_yes _ _ _ h); reads = f ∙ sym (pick_yes _ _ _ h) }

  -- a walk that lacks no descriptor misses none
  pub walked_found : lacks m d va ≡ false → walks_for d va ≡ true → is_missing (look m d va).found ≡ false
  unfolding lacks walks_for
  walked_found h e =
      let f = and_right (is_on d.registers.control) _ e in
      rest _ _ (and_right (no_match (looked_up d.bank.cam va)) _ f) (rest _ _ (and_left _ _ f) (rest _ _ (and_left _ _ e) h))

  module _ (a : Access) where
    abbrev x : Decision
    x = decided_by (look m d va) d va a

    pub decided_still : walks_for d va ≡ false → Still x
    unfolding decided walks_for
    decided_still h =
        pick_by Still _ _ _
        (λ e. matched_still (look m d va) d.registers.control d.bank.cam d.bank.ram va a (looked_up d.bank.cam va) (rest _ _ e h))
        (λ _. (refl, refl))

    pub decided-walks : walks_for d va ≡ true → x ≡ by_walk va a (look m d va)
    unfolding walks_for
    decided-walks h =
        decided-on _ _ _ _ va a (looked_up d.bank.cam va) (and_left _ _ h) refl
        ∙ matched_walks (look m d va) _ _ _ va a (looked_up d.bank.cam va) (and_right (is_on d.registers.control) _ h)

    -- a request or a retry that lacks no descriptor
    module _ (h : lacks m d va ≡ false) where
      pub attempt_met : is_met x.answer ≡ true
      unfolding decided lacks
      attempt_met =
          pick_by (λ (y : Decision). is_met y.answer ≡ true) _ _ _
          (λ e. matched_met (look m d va) d.registers.control d.bank.cam d.bank.ram va a (looked_up d.bank.cam va) (rest _ _ e h))
          (λ _. refl)

      pub attempt_seen : x.seen ≡ seen_for d va
      unfolding decided lacks seen_for
      attempt_seen =
          pick-both (λ (y : Decision) (s : Seen). y.seen ≡ s) _ _ _ _ _
          (λ e. matched_seen (look m d va) d.registers.control d.bank.cam d.bank.ram va a (looked_up d.bank.cam va) (rest _ _ e h))
          (λ _. refl)

      pub attempt_does : Does x
      attempt_does = by_walk_lem (walks_for d va) refl
        where
          by_walk_lem : (t : Bool) → walks_for d va ≡ t → Does x
          by_walk_lem false e = does_still e x (decided_still e)
          by_walk_lem true e =
              does_walk e x
              (ap (λ (y : Decision). y.fill) (decided-walks e) ∙ found_fill va a (look m d va).reads (look m d va).found)
              (ap (λ (y : Decision). y.reads) (decided-walks e) ∙ found_reads va a (look m d va).reads (look m d va).found (walked_found h e))
