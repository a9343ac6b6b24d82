-- Demand 2, the place stands beside the rest: nothing else depends on where a word lies, and the bill only on which
-- memory holds it. Assumes nothing.
use Rattle.page.specs.declared.Words.{Words}
use Rattle.std.proofs.Common.{Result, Ok, Err, Option, Some, None}
use Rattle.walk.specs.declared.Unfound.{Unfound}
use Rattle.walk.specs.declared.Page.{Page}
use Rattle.conduct.specs.Names.{◌≡◌, Bool, true, false, List, ℕ, ◌%◌, ◌^◌, ◌and◌, Lent, Place, Reads, Walked, word_count, reads_posted}
use Rattle.conduct.specs.Names.{seen_posted, looked_up, is_prefetch, is_on, is_walking, no_match, page_at, look, nowhere, moved_walked}
use Rattle.conduct.specs.Names.{request_refusals, write_refusals, Refusals, Call, request, write, read, drop-fault, shift, Said, step_out, step}
use Rattle.conduct.specs.Names.{Access, VirtualAddress, Tally, Bill, Prices, Stall, Answer, Decision, Command}
use Rattle.conduct.specs.Names.{Outcome, Device}
use Rattle.conduct.proofs.Names.{refl, sym, ◌∙◌, ap, ap₂, is_missing, by_found, by_matched, decided, prefetch_found, prefetch_matched}
use Rattle.conduct.proofs.Names.{prefetch_decided, prefetch_kept, command_of, refuses, refused_with, attempt_of, lacks, write_lacks, request_of, prefetched}
use Rattle.conduct.proofs.Names.{retried, carried, write_of, shift_of, said_refused, Attempted, nothing, attempt, prefetch, attempted}
use Rattle.conduct.proofs.Names.{reads_for, walks_for, seen_for, bill_asked}
use Rattle.walk.specs.Statements.{moved_reads}
use Rattle.bill.specs.Bill.{place_posted}
use Rattle.prices.specs.Prices.{row_of}
use Rattle.registers.specs.Fields.{with_prefetch}
use Rattle.decision.specs.Decisions.{tally_of}
use Rattle.unit.specs.Device.{applied, set_registers}
use Rattle.unit.specs.Calls.{retry_lacks}
use Rattle.unit.proofs.Refusing.{refuses-map}
use Rattle.conduct.specs.Metered.{words_only, bill_of}
use Rattle.conduct.specs.Placed.{memory_of, AlikeBut, SameCall, PlaceBeside}
use Rattle.conduct.proofs.Tests.{pick-both}
use Rattle.conduct.proofs.Refused.{nothing_changes}
use Rattle.conduct.proofs.Metered.{billed}

-- what a decision says and fills, and how many words it read
abbrev counted : Decision → Answer × (Option Words) × ℕ
counted x = (x.answer, x.fill, word_count x.reads)

abbrev Alike : Decision → Decision → Type 0
Alike x y = counted x ≡ counted y

-- walks that find the same and read as many words come to such decisions
module _ (va : VirtualAddress) (r r' : Reads) (e : word_count r ≡ word_count r') where
  found_alike : (a : Access) (f : Result Page Unfound) → Alike (by_found va a r f) (by_found va a r' f)
  unfolding by_found
  found_alike a (Err Unfound.Missing) = refl
  found_alike a (Err Unfound.NoPage) = ap (λ (n : ℕ). ((by_found va a r (Err Unfound.NoPage)).answer, None, n)) e
  found_alike a (Ok p) = ap (λ (n : ℕ). ((by_found va a r (Ok p)).answer, (by_found va a r (Ok p)).fill, n)) e

  ahead_alike : (f : Result Page Unfound) → Alike (prefetch_found va r f) (prefetch_found va r' f)
  unfolding prefetch_found
  ahead_alike (Err Unfound.Missing) = refl
  ahead_alike (Err Unfound.NoPage) = ap (λ (n : ℕ). ((prefetch_found va r (Err Unfound.NoPage)).answer, None, n)) e
  ahead_alike (Ok p) = ap (λ (n : ℕ). (Answer.Done, (prefetch_found va r (Ok p)).fill, n)) e

module _ (w w' : Walked) (f : w.found ≡ w'.found) (e : word_count w.reads ≡ word_count w'.reads) (va : VirtualAddress) where
  module _ (c : ℕ) (cam ram : List ℕ) (a : Access) where
    matched_alike : (x : Option ℕ) → Alike (by_matched w c cam ram va a x) (by_matched w' c cam ram va a x)
    matched_alike (Some i) = refl
    matched_alike None =
        pick-both Alike (is_walking c) _ _ _ _
        (λ _. found_alike va w.reads w'.reads e a w.found ∙ ap (λ (g : Result Page Unfound). counted (by_found va a w'.reads g)) f) (λ _. refl)

    decided_alike : Alike (decided w c cam ram va a) (decided w' c cam ram va a)
    unfolding decided
    decided_alike = pick-both Alike (is_on c) _ _ _ _ (λ _. matched_alike (looked_up cam va)) (λ _. refl)

  module _ (cam : List ℕ) where
    prefetch_by : (x : Option ℕ) → Alike (prefetch_matched w va x) (prefetch_matched w' va x)
    prefetch_by (Some i) = refl
    prefetch_by None = ahead_alike va w.reads w'.reads e w.found ∙ ap (λ (g : Result Page Unfound). counted (prefetch_found va w'.reads g)) f

    prefetch_alike : Alike (prefetch_decided w cam va) (prefetch_decided w' cam va)
    unfolding prefetch_decided
    prefetch_alike = prefetch_by (looked_up cam va)

-- a map of places leaves the number of words
count_moved : (f : Place → Place) (r : Reads) → word_count (moved_reads f r) ≡ word_count r
count_moved f Reads.Nothing = refl
count_moved f (Reads.One s) = refl
count_moved f (Reads.Two s t) = refl

-- what a call that may walk leaves and says, but for bill and place
abbrev besides : Outcome → Device × Tally × Answer
besides o = (o.device, o.tally, o.answer)

abbrev Same : Outcome → Outcome → Type 0
Same x y = besides x ≡ besides y

module _ (m m' : Lent) (d : Device) (h : AlikeBut nowhere m m' d) where
  same_found : (va : VirtualAddress) → (look m d va).found ≡ (look m' d va).found
  same_found va = ap (λ (w : Walked). w.found) (h.walks va)

  same_count : (va : VirtualAddress) → word_count (look m d va).reads ≡ word_count (look m' d va).reads
  same_count va =
      sym (count_moved nowhere (look m d va).reads) ∙ ap (λ (w : Walked). word_count w.reads) (h.walks va) ∙ count_moved nowhere (look m' d va).reads

  same_lacks : (va : VirtualAddress) → lacks m d va ≡ lacks m' d va
  unfolding lacks
  same_lacks va =
      ap (λ (f : Result Page Unfound). is_on d.registers.control and no_match (looked_up d.bank.cam va) and is_walking d.registers.control and is_missing f) (same_found va)

  retry_lacks_lem : (q : Option Stall) → retry_lacks m d q ≡ retry_lacks m' d q
  retry_lacks_lem None = refl
  retry_lacks_lem (Some s) = rw (same_lacks s.at)

  write_lacks_lem : (o v : ℕ) → write_lacks m d o v ≡ write_lacks m' d o v
  unfolding write_lacks
  write_lacks_lem o v = rw (same_found (page_at v), retry_lacks_lem d.pending)

  module _ (p : Prices) (b : Bill) where
    attempt_same : (again : Bool) (va : VirtualAddress) (a : Access) → Same (attempt_of m p b again d va a) (attempt_of m' p b again d va a)
    attempt_same again va a =
        ap (λ (x : Answer × (Option Words) × ℕ). (applied d x.1 x.0 va a, tally_of again x.2 x.0, x.0))
        (decided_alike (look m d va) (look m' d va) (same_found va) (same_count va) va d.registers.control d.bank.cam d.bank.ram a)

    prefetch_same : (v : ℕ) → Same (prefetched m p b d v) (prefetched m' p b d v)
    prefetch_same v =
        ap (λ (x : Answer × (Option Words) × ℕ). (
          applied (set_registers d (with_prefetch d.registers (prefetch_kept (v % 2 ^ 14) d.registers.prefetch x.0))) x.1 x.0 (page_at v) Access.Read,
          words_only x.2,
          x.0,
        ))
        (prefetch_alike (look m d (page_at v)) (look m' d (page_at v)) (same_found (page_at v)) (same_count (page_at v)) (page_at v) d.bank.cam)

    retried_same : (q : Option Stall) → Same (retried m p b d q) (retried m' p b d q)
    retried_same None = refl
    retried_same (Some s) = pick-both Same (is_prefetch s.fault) _ _ _ _ (λ _. refl) (λ _. attempt_same true s.at s.access)

    carried_same : (c : Command) → Same (carried m p b d c) (carried m' p b d c)
    carried_same (Command.Refused k) = refl
    carried_same Command.Nothing = refl
    carried_same Command.Reset = refl
    carried_same (Command.Set s) = refl
    carried_same (Command.Tend t) = refl
    carried_same Command.Load = refl
    carried_same Command.Copy = refl
    carried_same (Command.Prefetch v) = prefetch_same v
    carried_same (Command.Acknowledge go) = pick-both Same go _ _ _ _ (λ _. retried_same d.pending) (λ _. refl)

    -- refused alike, or going on alike
    refuses_same : (rs rs' : Refusals) (x y : Outcome) → rs ≡ rs' → Same x y → Same (refuses rs (refused_with d b) x) (refuses rs' (refused_with d b) y)
    refuses_same rs rs' x y e g =
        refuses-map besides rs (refused_with d b) x
        ∙ ap₂ (λ (l : Refusals) (z : Device × Tally × Answer). refuses l (λ k. besides (refused_with d b k)) z) e g
        ∙ sym (refuses-map besides rs' (refused_with d b) y)

    request_same : (va : VirtualAddress) (a : Access) → Same (request_of m p b d va a) (request_of m' p b d va a)
    unfolding request_of
    request_same va a = refuses_same (request_refusals m p b d va) (request_refusals m' p b d va) _ _ (rw (h.refused, same_lacks va)) (attempt_same false va a)

    write_same : (o v : ℕ) → Same (write_of m p b d o v) (write_of m' p b d o v)
    unfolding write_of
    write_same o v = refuses_same (write_refusals m p b d o v) (write_refusals m' p b d o v) _ _ (rw (h.refused, write_lacks_lem o v)) (carried_same (command_of o v))

  shift_same : (va : VirtualAddress) → shift_of m d va ≡ shift_of m' d va
  unfolding shift_of
  shift_same va = rw (h.refused, same_found va)

  out_same : (x y : Outcome) → Same x y → SameCall (step_out x) (step_out y)
  out_same x y e = record {
    device = ap (λ (z : Device × Tally × Answer). z.0) e;
    tally = ap (λ (z : Device × Tally × Answer). z.1) e;
    said = ap (λ (z : Device × Tally × Answer). Said.Answered z.2) e;
  }

  call_same : (b : Bill) (c : Call) → SameCall (step m d b c) (step m' d b c)
  call_same b (request va a p) = out_same _ _ (request_same p b va a)
  call_same b (write o v p) = out_same _ _ (write_same p b o v)
  call_same b (read o) = record { device = refl; tally = refl; said = refl }
  call_same b drop-fault = record { device = refl; tally = refl; said = refl }
  call_same b (shift va) = record { device = refl; tally = refl; said = ap Said.Reported (shift_same va) }

reads_bared : (r : Reads) → moved_reads nowhere r ≡ moved_reads nowhere (moved_reads memory_of r)
reads_bared Reads.Nothing = refl
reads_bared (Reads.One s) = refl
reads_bared (Reads.Two s t) = refl

bared : (w : Walked) → moved_walked nowhere w ≡ moved_walked nowhere (moved_walked memory_of w)
bared w = ap (λ (r : Reads). record { found = w.found; reads = r }) (reads_bared w.reads)

-- what a word costs depends on the memory alone
place_posted_lem : (p : Prices) (b : Bill) (x : Place) (row : ℕ) → place_posted p b (memory_of x) row ≡ place_posted p b x row
unfolding place_posted
place_posted_lem p b (Place.OnChip k) row = refl
place_posted_lem p b (Place.External k) row = refl
place_posted_lem p b Place.Nowhere row = refl

reads_posted_lem : (p : Prices) (b : Bill) (r : Reads) → reads_posted p b (moved_reads memory_of r) ≡ reads_posted p b r
reads_posted_lem p b Reads.Nothing = refl
reads_posted_lem p b (Reads.One s) = place_posted_lem p b s.place _
reads_posted_lem p b (Reads.Two s t) =
    place_posted_lem p _ t.place _ ∙ ap (λ (x : Bill). place_posted p x t.place (row_of t.at)) (place_posted_lem p b s.place _)

module _ (m m' : Lent) (d : Device) (b : Bill) (h : AlikeBut memory_of m m' d) where
  -- walks that agree but for offsets agree but for places
  fewer : AlikeBut nowhere m m' d
  fewer = record { refused = h.refused; walks = λ va. bared (look m d va) ∙ ap (moved_walked nowhere) (h.walks va) ∙ sym (bared (look m' d va)) }

  look-posted : (p : Prices) (va : VirtualAddress) → reads_posted p b (look m d va).reads ≡ reads_posted p b (look m' d va).reads
  look-posted p va =
      sym (reads_posted_lem p b (look m d va).reads)
      ∙ ap (λ (w : Walked). reads_posted p b w.reads) (h.walks va)
      ∙ reads_posted_lem p b (look m' d va).reads

  for_posted : (p : Prices) (va : VirtualAddress) → reads_posted p b (reads_for m d va) ≡ reads_posted p b (reads_for m' d va)
  unfolding reads_for
  for_posted p va = pick-both (λ (r r' : Reads). reads_posted p b r ≡ reads_posted p b r') (walks_for d va) _ _ _ _ (λ _. look-posted p va) (λ _. refl)

  asked-posted : (p : Prices) (q : Attempted) → bill_asked m d p b q ≡ bill_asked m' d p b q
  asked-posted p nothing = refl
  asked-posted p (attempt again va a) = ap (λ (x : Bill). seen_posted x (seen_for d va)) (for_posted p va)
  asked-posted p (prefetch va) = for_posted p va

  bill_of_lem : (c : Call) → bill_of m d b c ≡ bill_of m' d b c
  bill_of_lem (request va a p) = asked-posted p (attempted d (request va a p))
  bill_of_lem (write o v p) = asked-posted p (attempted d (write o v p))
  bill_of_lem (read o) = refl
  bill_of_lem drop-fault = refl
  bill_of_lem (shift va) = refl

  bill_same : (c : Call) → (step m d b c).bill ≡ (step m' d b c).bill
  bill_same c = by (said_refused (step m d b c).said) refl
    where
      alike : said_refused (step m' d b c).said ≡ said_refused (step m d b c).said
      alike = ap said_refused (sym (call_same m m' d fewer b c).said)

      by : (t : Bool) → said_refused (step m d b c).said ≡ t → (step m d b c).bill ≡ (step m' d b c).bill
      by true e = (nothing_changes m d b c e).bill ∙ sym (nothing_changes m' d b c (alike ∙ e)).bill
      by false e = billed m d b c e ∙ bill_of_lem c ∙ sym (billed m' d b c (alike ∙ e))

pub place_beside : PlaceBeside
place_beside = record {
  rest = λ m m' d b c h. call_same m m' d h b c;
  bill = λ m m' d b c h. bill_same m m' d b h c;
}
