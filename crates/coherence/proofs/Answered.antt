-- A request or a retry that no condition refuses is answered, and answered as the plain walk is. Assumes nothing.
use Rattle.std.proofs.Common.{Option, Some, Result, Ok, Err}
use Rattle.walk.specs.declared.Unfound.{Unfound}
use Rattle.walk.specs.declared.Page.{Page}
use Rattle.coherence.specs.Names.{ℕ, ◌%◌, ◌≡◌, Bool, true, false, not, eqb, pick, ◌and◌, is_missing, is_prefetch, is_refusal, by_access, Access}
use Rattle.coherence.specs.Names.{VirtualAddress, Lent, Bill, Prices, Fault, Stall, stall, Answer, Device, acknowledge_at, request_of, write_of, Look}
use Rattle.coherence.proofs.Names.{refl, sym, ◌∙◌, ap, subst, eq-eqb, ◌or◌, pick_yes, pick_by, no_register, listed, command_of, by_found}
use Rattle.coherence.proofs.Names.{PhysicalAddress, Reads, Walked, Outcome, Clear, refused_with, attempt_of, write_lacks, is_malformed}
use Rattle.coherence.proofs.Names.{is_untimely, request_refusals, write_refusals, retried, Coherent, look_in, clear_goes_on}
use borrow.Author.Tests.{lt-leb}
use Rattle.page.proofs.Picks.{pick_no, and-rest}
use Rattle.registers.specs.Answers.{idle}
use Rattle.unit.specs.Calls.{lacks, retry_lacks}
use Rattle.coherence.specs.Answered.{Ready, Answered, RequestAnswered, RetryAnswered}
use Rattle.coherence.proofs.Attempts.{same_walk, attempt-answers}

access_answers : (bits : ℕ) (at : PhysicalAddress) (a : Access) → is_refusal (by_access bits at a) ≡ false
unfolding by_access
access_answers bits at a = pick_by (λ (r : Answer). is_refusal r ≡ false) _ _ _ (λ _. refl) (λ _. refl)

-- the plain walk refuses exactly where a descriptor is missing
pub plain-refuses : (va : VirtualAddress) (a : Access) (r : Reads) (f : Result Page Unfound) → is_refusal (by_found va a r f).answer ≡ is_missing f
unfolding by_found
plain-refuses va a r (Err Unfound.Missing) = refl
plain-refuses va a r (Err Unfound.NoPage) = refl
plain-refuses va a r (Ok p) = access_answers p.access _ a

module _ (m : Lent) (base : ℕ) where
  abbrev walked : Look
  walked = look_in m base

  module _ (d : Device) (h : Coherent walked base d) (va : VirtualAddress) (there : is_missing (walked va).found ≡ false) where
    lacks-nothing : lacks m d va ≡ false
    unfolding lacks
    lacks-nothing =
        and-rest _ _ (and-rest _ _ (and-rest _ _ (ap (λ (w : Walked). is_missing w.found) (same_walk m base d h va) ∙ there)))

    -- an attempt is answered
    attempt-answered : (p : Prices) (b : Bill) (again : Bool) (a : Access) → Answered walked va a (attempt_of m p b again d va a).answer
    attempt-answered p b again a =
        let e = attempt-answers m base d h va a in
        record { accepted = ap is_refusal e ∙ plain-refuses va a (walked va).reads (walked va).found ∙ there; plainly = e }

  pub request-answered : RequestAnswered m base
  unfolding request_of
  request-answered p b d va a h g q l t =
      subst (λ (x : Outcome). Answered walked va a x.answer)
      (sym (clear_goes_on (refused_with d b) (attempt_of m p b false d va a) (request_refusals m p b d va)
      (ap not g.range, (lt-leb _ _ l, (ap not g.memories, (ap not g.money, (ap (λ (x : Option Stall). not (idle x)) q, (lacks-nothing d h va t, tt))))))))
      (attempt-answered d h va t p b false a)

  retry_clear : (p : Prices) (b : Bill) (d : Device) (v : ℕ) (k : Fault) (va : VirtualAddress) (a : Access) → Ready m p b d → d.pending ≡ Some (stall k va a)
      → lacks m d va ≡ false → Clear (write_refusals m p b d acknowledge_at v)
  unfolding no_register is_malformed is_untimely write_lacks ◌and◌ ◌or◌
  retry_clear p b d v k va a g q n = (
    ap not g.range,
    (
      refl,
      (
        refl,
        (
          ap not g.memories,
          (ap not g.money, (refl, (refl, (and-rest (eqb (v % 2) 1) _ (ap idle q), (and-rest (eqb (v % 2) 1) _ (ap (retry_lacks m d) q ∙ and-rest (not (is_prefetch k)) _ n), tt))))),
        ),
      ),
    ),
  )

  pub retry_answered : RetryAnswered m base
  unfolding write_of command_of listed pick
  retry_answered p b d v k va a h g q f o t =
      subst (λ (x : Outcome). Answered walked va a x.answer)
      (sym (clear_goes_on (refused_with d b) _ (write_refusals m p b d acknowledge_at v) (retry_clear p b d v k va a g q (lacks-nothing d h va t))
      ∙ pick_yes _ _ _ (eq-eqb _ _ o) ∙ ap (retried m p b d) q ∙ pick_no _ _ _ f))
      (attempt-answered d h va t p b true a)
