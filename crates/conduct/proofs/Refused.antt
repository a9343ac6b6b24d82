-- Demand 1 for every call: refused exactly when the paper says, and then nothing changes. Assumes nothing.
use Rattle.std.specs.Prelude.{ℤ}
use Rattle.decision.specs.declared.ShiftError.{ShiftError}
use Rattle.std.proofs.Common.{Result, Ok, Err}
use Rattle.walk.specs.declared.Unfound.{Unfound}
use Rattle.walk.specs.declared.Page.{Page}
use Rattle.conduct.specs.Names.{◌≡◌, true, false, ℕ, no_tally, pick, is_refusal, listed, Answer, page_at, Refusals, First, Clear, in_range, look}
use Rattle.conduct.specs.Names.{cleared, request_refusals, write_refusals, read_refusals, drop_refusals, shift_refusals, Call, request, write, read}
use Rattle.conduct.specs.Names.{drop-fault, shift, Said, said_number, Step, step_out, step, Access, VirtualAddress, Lent, Bill, Prices}
use Rattle.conduct.specs.Names.{Device, Outcome}
use Rattle.conduct.proofs.Names.{refl, sym, ◌∙◌, true≢false, not-false, is_missing, command_of, value_at, by_offset, shift_by, refuses, told}
use Rattle.conduct.proofs.Names.{told_refused, refused_with, decided_by, attempt_of, lacks, request_of, carried, write_of, read_of, drop_of, shift_of}
use Rattle.conduct.proofs.Names.{said_refused, Accepted, Unchanged, Attempted}
use Rattle.memory.specs.declared.Place.{Place}
use Rattle.unit.specs.Calls.{shift_from}
use Rattle.unit.specs.Machine.{step_told}
use Rattle.conduct.specs.Refused.{refusals_of, shift_refused, RefusedWith, ExactlyWhen, AcceptedWhen, NothingChanges}
use Rattle.conduct.proofs.Firsts.{exactly-first, accepted_clear, refused_by}
use Rattle.conduct.proofs.Attempts.{attempt_met, met_no_refusal}
use Rattle.conduct.proofs.Prefetches.{prefetch-answers}
use Rattle.conduct.proofs.Writes.{write_by_lem, prefetch-there}

-- past its refusals no call is refused
attempt-answers : (m : Lent) (d : Device) (va : VirtualAddress) (a : Access) → lacks m d va ≡ false → is_refusal (decided_by (look m d va) d va a).answer ≡ false
attempt-answers m d va a h = met_no_refusal (decided_by (look m d va) d va a).answer (attempt_met m d va a h)

write-answers : (m : Lent) (p : Prices) (b : Bill) (d : Device) (v o : ℕ) → Clear (write_refusals m p b d o v) → is_refusal (carried m p b d (command_of o v)).answer ≡ false
write-answers m p b d v o =
    write_by_lem m p b d v (λ (q : Attempted) (x : Outcome). is_refusal x.answer ≡ false)
    refl refl (attempt-answers m d)
    (λ c. prefetch-answers m d (page_at v) (prefetch-there m p b d v c))
    o (λ _ _. refl)

read-answers : (d : Device) (o : ℕ) → Clear (read_refusals d o) → is_refusal (value_at o d.registers d.bank.lock d.bank.victim d.pending) ≡ false
unfolding value_at listed pick
read-answers d =
    by_offset (λ (o : ℕ). Clear (read_refusals d o) → is_refusal (value_at o d.registers d.bank.lock d.bank.victim d.pending) ≡ false)
    (λ _. refl) (λ _. refl) (λ _. refl) (λ _. refl) (λ _. refl) (λ _. refl)
    (λ c. absurd (true≢false c.1.1.0))
    (λ _. refl) (λ _. refl) (λ _. refl) (λ _. refl) (λ _. refl) (λ _. refl) (λ _. refl)
    (λ _. refl) (λ _. refl) (λ _. refl) (λ _. refl) (λ _. refl) (λ _. refl) (λ _. refl)
    (λ o e c. absurd (true≢false (sym e ∙ c.1.0)))

shift-answers : (va : VirtualAddress) (f : Result Page Unfound) → is_missing f ≡ false → shift_refused (shift_by va f) ≡ false
shift-answers va (Err Unfound.Missing) h = absurd (true≢false h)
shift-answers va (Err Unfound.NoPage) h = refl
shift-answers va (Ok p) h = refl

module _ (d : Device) (b : Bill) where
  -- a step is refused with the first of its refusals, and then changes nothing
  pub record Settled (rs : Refusals) (s : Step) : Type 0 where
    pub exactly : (k : ℕ) → (RefusedWith s.said k → First rs k) × (First rs k → RefusedWith s.said k)
    pub accepted : (said_refused s.said ≡ false → Clear rs) × (Clear rs → said_refused s.said ≡ false)
    pub still : said_refused s.said ≡ true → Unchanged d b s

  -- so it is where each refusal is one that changes nothing, and what follows is none
  settles : {A : Type 0} (out : A → Step) (say : ℕ → A) (else : A) (rs : Refusals)
      → ((k : ℕ) → RefusedWith (out (say k)).said k)
      → ((k : ℕ) → Unchanged d b (out (say k)))
      → (Clear rs → said_refused (out else).said ≡ false)
      → Settled rs (out (refuses rs say else))
  settles out say else rs says still goes_on = record {
    exactly = exactly-first say else rs (λ x. said_refused (out x).said) (λ x. said_number (out x).said) goes_on (λ k _. says k);
    accepted = accepted_clear say else rs (λ x. said_refused (out x).said) (λ x. said_number (out x).said) goes_on (λ k _. says k);
    still = refused_by say else rs (λ x. said_refused (out x).said) (λ x. said_number (out x).said) goes_on (λ x. Unchanged d b (out x)) still;
  }

  abbrev said_shift : Place → Result ℤ ShiftError → Step
  said_shift f s = record { device = d; bill = b; tally = no_tally; said = Said.Reported s; from = f }

  same : (s : Step) → s.device ≡ d → s.bill ≡ b → s.tally ≡ no_tally → Unchanged d b s
  same s e f g = record { device = e; bill = f; tally = g }

pub settled : (m : Lent) (d : Device) (b : Bill) (c : Call) → Settled d b (refusals_of m d b c) (step m d b c)
unfolding request_of write_of read_of drop_of shift_of
settled m d b (request va a p) =
    settles d b step_out (refused_with d b) (attempt_of m p b false d va a) (request_refusals m p b d va)
    (λ k. (refl, refl)) (λ k. same d b _ refl refl refl) (λ c. attempt-answers m d va a c.1.1.1.1.1.0)
settled m d b (write o v p) =
    settles d b step_out (refused_with d b) (carried m p b d (command_of o v)) (write_refusals m p b d o v)
    (λ k. (refl, refl)) (λ k. same d b _ refl refl refl) (write-answers m p b d v o)
settled m d b (read o) =
    settles d b (step_told b) (told_refused d) (told d (value_at o d.registers d.bank.lock d.bank.victim d.pending)) (read_refusals d o)
    (λ k. (refl, refl)) (λ k. same d b _ refl refl refl) (read-answers d o)
settled m d b drop-fault =
    settles d b (step_told b) (told_refused d) (told (cleared d) Answer.Done) (drop_refusals d)
    (λ k. (refl, refl)) (λ k. same d b _ refl refl refl) (λ _. refl)
settled m d b (shift va) =
    settles d b (said_shift d b (shift_from m d va)) (λ (k : ℕ). Err (ShiftError.Refused k)) (shift_by va (look m d va).found) (shift_refusals m d va)
    (λ k. (refl, refl)) (λ k. same d b _ refl refl refl) (λ c. shift-answers va (look m d va).found c.1.1.1.0)

pub exactly-when : ExactlyWhen
exactly-when m d b c = (settled m d b c).exactly

pub accepted-when : AcceptedWhen
accepted-when m d b c = (settled m d b c).accepted

pub nothing_changes : NothingChanges
nothing_changes m d b c = (settled m d b c).still

-- a call that is not refused was handed a device in range
pub accepted-in_range : (m : Lent) (d : Device) (b : Bill) (c : Call) → Accepted m d b c → in_range d ≡ true
accepted-in_range m d b (request va a p) h = not-false _ ((accepted-when m d b (request va a p)).0 h).0
accepted-in_range m d b (write o v p) h = not-false _ ((accepted-when m d b (write o v p)).0 h).0
accepted-in_range m d b (read o) h = not-false _ ((accepted-when m d b (read o)).0 h).0
accepted-in_range m d b drop-fault h = not-false _ ((accepted-when m d b drop-fault).0 h).0
accepted-in_range m d b (shift va) h = not-false _ ((accepted-when m d b (shift va)).0 h).0
