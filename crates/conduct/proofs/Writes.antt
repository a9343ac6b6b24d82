-- What a write does past its refusals, by its offset: it is never refused there. Assumes nothing.
use Rattle.std.proofs.Common.{Option, Some, None}
use Rattle.conduct.specs.Names.{◌≡◌, true, false, not, ℕ, ◌/◌, ◌%◌, eqb, pick, ◌and◌, slots, looked_up, is_prefetch, is_on, is_walking, listed}
use Rattle.conduct.specs.Names.{page_at, Clear, look, cleared, done_with, prefetch_at, acknowledge_at, lock_at, load_at, no_match, may_walk}
use Rattle.conduct.specs.Names.{write_refusals, Access, VirtualAddress, Lent, Bill, Prices, Fault, Stall, stall, Command, Device, Outcome, Tending}
use Rattle.conduct.proofs.Names.{refl, sym, ◌∙◌, ap, subst, true≢false, arith, leb, eqb-false, leb-false, lt-ltb, not-false, ◌or◌, pick_yes}
use Rattle.conduct.proofs.Names.{pick_by, and_yes, and_left, and_right, is_missing, control_command, lock_command, load_command, when_bit}
use Rattle.conduct.proofs.Names.{command_of, by_offset, attempt_of, lacks, write_lacks, is_malformed, is_untimely, prefetched, retried, carried}
use Rattle.conduct.proofs.Names.{Attempted, nothing, attempt, prefetch, retry_attempted, write_attempted}
use Rattle.unit.specs.Calls.{is_read_only, retry_lacks, held_retried}
use Rattle.conduct.proofs.Tests.{rest, either_left, either_right, pick-both, four}

module _ (m : Lent) (p : Prices) (b : Bill) (d : Device) (v : ℕ) (P : Attempted → Outcome → Type 0) where
  -- what a write of acknowledge does: nothing, a drop, or a retry
  module _
      (stays : P nothing (done_with b d))
      (drops : P nothing (done_with b (cleared d)))
      (retries : (va : VirtualAddress) (a : Access) → lacks m d va ≡ false → P (attempt true va a) (attempt_of m p b true d va a)) where
    held_by : (k : Fault) (va : VirtualAddress) (a : Access) → retry_lacks m d (Some (stall k va a)) ≡ false → P (retry_attempted (Some (stall k va a))) (held_retried m p b d k va a)
    held_by k va a h = pick-both P _ _ _ _ _ (λ _. drops) (λ e. retries va a (rest (not (is_prefetch k)) _ (ap not e) h))

    retry_by : (q : Option Stall) → retry_lacks m d q ≡ false → P (retry_attempted q) (retried m p b d q)
    retry_by None h = stays
    retry_by (Some s) h = held_by s.fault s.at s.access h

    acknowledge_by : write_lacks m d acknowledge_at v ≡ false → P (write_attempted d.pending acknowledge_at v) (carried m p b d (Command.Acknowledge (eqb (v % 2) 1)))
    unfolding write_attempted write_lacks pick ◌and◌ ◌or◌
    acknowledge_by h = pick-both P (eqb (v % 2) 1) _ _ _ _ (λ e. retry_by d.pending (rest _ _ e h)) (λ _. stays)

  -- what a write of another register does: it leaves some device, and neither reads nor meters
  module _ (sets : (d' : Device) → P nothing (done_with b d')) where
    abbrev Carries : Command → Type 0
    Carries c = P nothing (carried m p b d c)

    control_by : Carries (control_command v)
    unfolding control_command
    control_by = pick_by Carries _ _ _ (λ _. sets _) (λ _. sets _)

    bit_by : (t : Tending) → Carries (when_bit v t)
    unfolding when_bit
    bit_by t = pick_by Carries _ _ _ (λ _. sets _) (λ _. sets _)

    lock_by : is_malformed lock_at v ≡ false → Carries (lock_command v)
    unfolding is_malformed lock_command ◌and◌ ◌or◌
    lock_by h =
        let e = either_left (leb slots (v / 1024) or leb slots (v / 16 % 64)) false h in
        let l = lt-ltb (v / 1024) slots (leb-false slots (v / 1024) (either_left _ _ e)) in
        let r = lt-ltb (v / 16 % 64) slots (leb-false slots (v / 16 % 64) (either_right (leb slots (v / 1024)) _ e)) in
        subst Carries (sym (pick_yes _ _ _ (and_yes _ _ l ∙ r))) (sets _)

    load_by_lem : is_malformed load_at v ≡ false → Carries (load_command v)
    unfolding is_malformed load_command ◌and◌ ◌or◌
    load_by_lem h =
        pick_by Carries _ _ _ (λ _. sets _)
        (λ x. pick_by Carries _ _ _ (λ _. sets _)
        (λ y. pick_by Carries _ _ _ (λ _. sets _)
        (λ z. absurd (four (v % 4) (omega arith) (eqb-false (v % 4) 0 x) (eqb-false (v % 4) 1 y) (eqb-false (v % 4) 2 z) (eqb-false (v % 4) 3 h)))))

  abbrev Sets : ℕ → Type 0
  Sets o = may_walk o ≡ false → (d' : Device) → P nothing (done_with b d')

  abbrev Goes : ℕ → Type 0
  Goes o = Clear (write_refusals m p b d o v) → P (write_attempted d.pending o v) (carried m p b d (command_of o v))

  read_only : (o : ℕ) → is_read_only o ≡ true → Goes o
  read_only o e c = absurd (true≢false (sym e ∙ c.1.1.0))

  -- what holds of each of these holds of what every write does past its refusals
  pub write_by_lem :
      P nothing (done_with b d)
      → P nothing (done_with b (cleared d))
      → ((va : VirtualAddress) (a : Access) → lacks m d va ≡ false → P (attempt true va a) (attempt_of m p b true d va a))
      → (Clear (write_refusals m p b d prefetch_at v) → P (prefetch (page_at v)) (prefetched m p b d v))
      → (o : ℕ) → Sets o → Goes o
  unfolding command_of listed write_attempted pick ◌and◌ ◌or◌
  write_by_lem stays drops retries fetches =
      by_offset (λ (o : ℕ). Sets o → Goes o)
      (λ s c. fetches c)
      (λ s. read_only 0x04 refl)
      (λ s c. control_by (s refl))
      (λ s. read_only 0x0c refl)
      (λ s. read_only 0x10 refl)
      (λ s. read_only 0x14 refl)
      (λ s c. acknowledge_by stays drops retries c.1.1.1.1.1.1.1.1.0)
      (λ s c. s refl _)
      (λ s c. s refl _)
      (λ s c. lock_by (s refl) c.1.1.1.1.1.0)
      (λ s c. load_by_lem (s refl) c.1.1.1.1.1.0)
      (λ s c. s refl _)
      (λ s c. s refl _)
      (λ s c. s refl _)
      (λ s c. s refl _)
      (λ s c. bit_by (s refl) Tending.Flush)
      (λ s c. bit_by (s refl) Tending.FlushEntry)
      (λ s. read_only 0x44 refl)
      (λ s. read_only 0x48 refl)
      (λ s. read_only 0x4c refl)
      (λ s. read_only 0x50 refl)
      (λ o e s c. absurd (true≢false (sym e ∙ c.1.0)))

-- a prefetch that is not refused finds the unit on and walking, and lacks no descriptor
module _ (m : Lent) (p : Prices) (b : Bill) (d : Device) (v : ℕ) (c : Clear (write_refusals m p b d prefetch_at v)) where
  prefetch_timely : (is_on d.registers.control and is_walking d.registers.control) ≡ true
  unfolding is_untimely
  prefetch_timely = not-false _ (rest true _ refl (either_left _ _ c.1.1.1.1.1.1.1.0))

  pub prefetch-on : is_on d.registers.control ≡ true
  prefetch-on = and_left _ _ prefetch_timely

  pub prefetch-walking : is_walking d.registers.control ≡ true
  prefetch-walking = and_right (is_on d.registers.control) _ prefetch_timely

  pub prefetch-there : (no_match (looked_up d.bank.cam (page_at v)) and is_missing (look m d (page_at v)).found) ≡ false
  unfolding write_lacks
  prefetch-there = rest true _ refl (either_left _ _ c.1.1.1.1.1.1.1.1.0)
