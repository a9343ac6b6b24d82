-- Demand 2, the meters and the bill: each call that is not refused adds what its plain walk reads. Assumes nothing.
use Rattle.conduct.specs.Names.{◌≡◌, [], ◌∷◌, Bool, true, false, ℕ, ◌+◌, no_tally, posted, BelowStop, reads_posted, Good, page_at, may_walk, Call}
use Rattle.conduct.specs.Names.{request, write, read, drop-fault, shift, step, Bench, run, Lent, Tally, Device, Bill, Prices, Outcome}
use Rattle.conduct.proofs.Names.{refl, sym, ◌∙◌, ap, ap₂, subst, arith, not-false, pick_by, and_left, or_yes, or_no, Accepted, said_refused}
use Rattle.conduct.proofs.Names.{Unchanged, Attempted, nothing, attempt, prefetch, retry_attempted, write_attempted, attempted, reads_for}
use Rattle.conduct.proofs.Names.{tally_attempted, seen_for}
use Rattle.conduct.proofs.Names.{bill_asked}
use Rattle.meters.specs.Posted.{stopped}
use Rattle.meters.specs.declared.Meters.{Meters}
use Rattle.meters.proofs.Posting.{posted-zero, posted-within}
use Rattle.prices.specs.Prices.{prices_ok}
use Rattle.bill.proofs.Stays.{stays_reads, stays_seen, money-prices}
use Rattle.unit.specs.Machine.{bench_after}
use Rattle.conduct.specs.Refused.{BenchStays, GoodKept}
use Rattle.conduct.specs.Metered.{bill_of, Metered, WordsBilled, added, tallied, PostedMeters}
use Rattle.conduct.proofs.Tests.{rest}
use Rattle.conduct.proofs.Writes.{write_by_lem}
use Rattle.conduct.proofs.Calls.{attempt-tally, attempt-bill, prefetch-tally, prefetch-bill, accepted-request, accepted-write}
use Rattle.conduct.proofs.Refused.{nothing_changes, accepted-when}

pub metered : Metered
metered m d b (request va a p) =
    accepted-request m p b d (λ (x : Outcome). x.tally ≡ tally_attempted m d (attempt false va a)) va a
    (λ c. attempt-tally m p b d false va a c.1.1.1.1.1.0)
metered m d b (write o v p) =
    accepted-write m p b d (λ (x : Outcome). x.tally ≡ tally_attempted m d (attempted d (write o v p))) o v
    (write_by_lem m p b d v (λ (q : Attempted) (x : Outcome). x.tally ≡ tally_attempted m d q) refl refl (attempt-tally m p b d true) (prefetch-tally m p b d v) o (λ _ _. refl))
metered m d b (read o) = λ _. refl
metered m d b drop-fault = λ _. refl
metered m d b (shift va) = λ _. refl

pub billed : WordsBilled
billed m d b (request va a p) =
    accepted-request m p b d (λ (x : Outcome). x.bill ≡ bill_asked m d p b (attempt false va a)) va a
    (λ c. attempt-bill m p b d false va a c.1.1.1.1.1.0)
billed m d b (write o v p) =
    accepted-write m p b d (λ (x : Outcome). x.bill ≡ bill_asked m d p b (attempted d (write o v p))) o v
    (write_by_lem m p b d v (λ (q : Attempted) (x : Outcome). x.bill ≡ bill_asked m d p b q) refl refl (attempt-bill m p b d true) (prefetch-bill m p b d v) o (λ _ _. refl))
billed m d b (read o) = λ _. refl
billed m d b drop-fault = λ _. refl
billed m d b (shift va) = λ _. refl

-- a refused call leaves the whole bench as it is
module _ (m : Lent) (s : Bench) (c : Call) (w : BelowStop s.meters) where
  stay : (step m s.device s.bill c).tally ≡ no_tally → (run m s (c ∷ [])).meters ≡ s.meters
  stay e = ap (posted s.meters) e ∙ posted-zero s.meters w

  unmoved : Unchanged s.device s.bill (step m s.device s.bill c) → run m s (c ∷ []) ≡ s
  unmoved u =
      ap₂ (λ (x : Device) (y : Bill). record { device = x; bill = y; meters = (run m s (c ∷ [])).meters }) u.device u.bill
      ∙ ap (λ (z : Meters). record { device = s.device; bill = s.bill; meters = z }) (stay u.tally)

pub bench_stays : BenchStays
bench_stays m s c w h = unmoved m s c w (nothing_changes m s.device s.bill c h)

-- two postings are one of the sum
stopped_twice : (a b c : ℕ) → stopped (stopped a b) c ≡ stopped a (b + c)
stopped_twice a b c = omega arith

posted_twice : (m : Meters) (s t : Tally) → posted (posted m s) t ≡ posted m (added s t)
unfolding posted
posted_twice m s t =
    rw (stopped_twice m.fresh s.fresh t.fresh, stopped_twice m.retries s.retries t.retries, stopped_twice m.words s.words t.words)

pub posted-meters : PostedMeters
posted-meters m s [] w = sym (posted-zero s.meters w)
posted-meters m s (c ∷ cs) w =
    let x = step m s.device s.bill c in
    posted-meters m (bench_after s.meters x) cs (posted-within s.meters x.tally)
    ∙ posted_twice s.meters x.tally (tallied m x.device x.bill cs)

-- a good bill stays good
module _ (m : Lent) (d : Device) (p : Prices) (b : Bill) (g : Good b) where
  asked-good : (q : Attempted) → prices_ok p ≡ true → Good (bill_asked m d p b q)
  asked-good nothing h = g
  asked-good (attempt again va a) h = stays_seen (reads_posted p b (reads_for m d va)) (seen_for d va) (stays_reads p b (reads_for m d va) g h)
  asked-good (prefetch va) h = stays_reads p b (reads_for m d va) g h

  -- a write that asks for something is of a register with prices
  write-good : (o v : ℕ) → (may_walk o ≡ true → prices_ok p ≡ true) → Good (bill_asked m d p b (write_attempted d.pending o v))
  unfolding write_attempted
  write-good o v h =
      pick_by (λ (q : Attempted). Good (bill_asked m d p b q)) _ _ _ (λ e. asked-good (prefetch (page_at v)) (h (or_yes _ _ e)))
      (λ e. pick_by (λ (q : Attempted). Good (bill_asked m d p b q)) _ _ _
      (λ f. asked-good (retry_attempted d.pending) (h (or_no _ _ e ∙ or_yes _ _ (and_left _ _ f)))) (λ _. g))

bill-good : (m : Lent) (d : Device) (b : Bill) (c : Call) → Good b → Accepted m d b c → Good (bill_of m d b c)
bill-good m d b (request va a p) g h =
    asked-good m d p b g (attempt false va a) (money-prices p b (not-false _ ((accepted-when m d b (request va a p)).0 h).1.1.1.0))
bill-good m d b (write o v p) g h =
    write-good m d p b g o v (λ w. money-prices p b (not-false _ (rest _ _ w ((accepted-when m d b (write o v p)).0 h).1.1.1.1.0)))
bill-good m d b (read o) g h = g
bill-good m d b drop-fault g h = g
bill-good m d b (shift va) g h = g

pub good-kept : GoodKept
good-kept m d b c g = by (said_refused (step m d b c).said) refl
  where
    by : (t : Bool) → said_refused (step m d b c).said ≡ t → Good (step m d b c).bill
    by true e = subst Good (sym (nothing_changes m d b c e).bill) g
    by false e = subst Good (sym (billed m d b c e)) (bill-good m d b c g e)
