-- A call that is not refused does what it asks, and no more: what holds of that holds of its step. Assumes nothing.
use Rattle.conduct.specs.Names.{◌≡◌, Bool, true, false, ℕ, last_place, word_count, reads_posted, seen_posted, page_at, Clear, look, prefetch_at, request_refusals}
use Rattle.conduct.specs.Names.{write_refusals, request, write, Said, Access, VirtualAddress, Lent, Bill, Prices, Reads, Seen, Decision, Device}
use Rattle.conduct.specs.Names.{Outcome}
use Rattle.conduct.proofs.Names.{refl, sym, ◌∙◌, ap, ap₂, entry_filled, command_of, metered_once, prefetch_decided, refused_with, decided_by}
use Rattle.conduct.proofs.Names.{attempt_of, lacks, request_of, prefetched, carried, write_of, Accepted, attempt, prefetch, reads_for, fill_for}
use Rattle.conduct.proofs.Names.{tally_attempted, bill_asked}
use Rattle.conduct.specs.Metered.{words_only}
use Rattle.conduct.proofs.Firsts.{accepted_by}
use Rattle.conduct.proofs.Attempts.{Does, met_tally, attempt_met, attempt_seen, attempt_does}
use Rattle.conduct.proofs.Prefetches.{prefetch_seen, prefetch_does}
use Rattle.conduct.proofs.Writes.{prefetch-on, prefetch-walking, prefetch-there}

module _ (m : Lent) (p : Prices) (b : Bill) (d : Device) where
  module _ (again : Bool) (va : VirtualAddress) (a : Access) (h : lacks m d va ≡ false) where
    abbrev x : Decision
    x = decided_by (look m d va) d va a

    once : (t : Bool) (n : ℕ) → word_count (reads_for m d va) ≡ n → metered_once t n ≡ tally_attempted m d (attempt t va a)
    once false n e = ap (metered_once false) (sym e)
    once true n e = ap (metered_once true) (sym e)

    pub attempt-tally : (attempt_of m p b again d va a).tally ≡ tally_attempted m d (attempt again va a)
    attempt-tally =
        met_tally again (word_count x.reads) x.answer (attempt_met m d va a h)
        ∙ once again (word_count x.reads) (sym (ap word_count (attempt_does m d va a h).reads))

    pub attempt-bill : (attempt_of m p b again d va a).bill ≡ bill_asked m d p b (attempt again va a)
    attempt-bill =
        ap₂ (λ (r : Reads) (s : Seen). seen_posted (reads_posted p b r) s) (attempt_does m d va a h).reads (attempt_seen m d va a h)

    pub attempt-bank : (attempt_of m p b again d va a).device.bank ≡ entry_filled d.bank (fill_for m d va)
    attempt-bank = ap (entry_filled d.bank) (attempt_does m d va a h).fill

    pub attempt-from : (attempt_of m p b again d va a).from ≡ last_place (reads_for m d va)
    attempt-from = ap last_place (attempt_does m d va a h).reads

  module _ (v : ℕ) (c : Clear (write_refusals m p b d prefetch_at v)) where
    abbrev y : Decision
    y = prefetch_decided (look m d (page_at v)) d.bank.cam (page_at v)

    prefetch_meets : Does m d (page_at v) y
    prefetch_meets = prefetch_does m d (page_at v) (prefetch-there m p b d v c) (prefetch-on m p b d v c) (prefetch-walking m p b d v c)

    pub prefetch-tally : (prefetched m p b d v).tally ≡ tally_attempted m d (prefetch (page_at v))
    prefetch-tally = ap (λ (r : Reads). words_only (word_count r)) prefetch_meets.reads

    pub prefetch-bill : (prefetched m p b d v).bill ≡ bill_asked m d p b (prefetch (page_at v))
    prefetch-bill =
        ap₂ (λ (r : Reads) (s : Seen). seen_posted (reads_posted p b r) s) prefetch_meets.reads (prefetch_seen m d (page_at v))

    pub prefetch-bank : (prefetched m p b d v).device.bank ≡ entry_filled d.bank (fill_for m d (page_at v))
    prefetch-bank = ap (entry_filled d.bank) prefetch_meets.fill

    pub prefetch-from : (prefetched m p b d v).from ≡ last_place (reads_for m d (page_at v))
    prefetch-from = ap last_place prefetch_meets.reads

  abbrev said_out : Outcome → Said
  said_out o = Said.Answered o.answer

  -- a request that is not refused is an attempt
  pub accepted-request : (P : Outcome → Type 0) (va : VirtualAddress) (a : Access)
      → (Clear (request_refusals m p b d va) → P (attempt_of m p b false d va a)) → Accepted m d b (request va a p) → P (request_of m p b d va a)
  unfolding request_of
  accepted-request P va a f = accepted_by (refused_with d b) (attempt_of m p b false d va a) P said_out (request_refusals m p b d va) (λ k. refl) f

  -- a write that is not refused is what its command is
  pub accepted-write : (P : Outcome → Type 0) (o v : ℕ)
      → (Clear (write_refusals m p b d o v) → P (carried m p b d (command_of o v))) → Accepted m d b (write o v p) → P (write_of m p b d o v)
  unfolding write_of
  accepted-write P o v f = accepted_by (refused_with d b) (carried m p b d (command_of o v)) P said_out (write_refusals m p b d o v) (λ k. refl) f
