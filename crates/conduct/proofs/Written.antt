-- Demand 2: what is written is read back; reset, load and copy. Assumes nothing.
use Rattle.conduct.specs.Names.{◌≡◌, true, false, not, ◌≢◌, ℕ, ◌+◌, ◌*◌, ◌/◌, ◌%◌, ◌^◌, ◌<◌, eqb, pick, ◌and◌, slots, slot_at, is_refusal}
use Rattle.conduct.specs.Names.{words_of, entry_of, listed, Setting, page_at, Clear, look, in_range, fresh_device, control_at, acknowledge_at, lock_at}
use Rattle.conduct.specs.Names.{load_at, write_refusals, read_refusals, write, Said, step_out, step, Lent, Bill, Prices, Answer, Command, Device}
use Rattle.conduct.specs.Names.{Outcome, Told, Tending}
use lib.Dec.{ltb}
use Rattle.conduct.proofs.Names.{refl, sym, ◌∙◌, ap, subst, true≢false, arith, leb, eq-eqb, ne_eqb, lt-ltb, leb-false, not-false, ◌or◌}
use Rattle.conduct.proofs.Names.{pick_yes, pick_no, and_yes, and_left, and_right, in_range_lem, registers_ok, pending_ok, no_register, control_command}
use Rattle.conduct.proofs.Names.{lock_command, load_command, command_of, value_at, by_offset, registers_in-range, prefetch_decided, prefetch_kept}
use Rattle.conduct.proofs.Names.{told, told_refused, refused_with, is_malformed, is_untimely, write_lacks, carried, write_of, read_of, clear_goes_on}
use Rattle.conduct.proofs.Names.{refuses_by, Accepted, LanesFit}
use Rattle.bank.proofs.Fills.{stored_keeps, stored_has}
use Rattle.registers.proofs.Ranges.{entry_words_lem}
use Rattle.unit.specs.Calls.{with_loaded, with_copy}
use Rattle.conduct.specs.Written.{kept_bits, ReadBack, shown_of, ReadShown, Resets, ResetFresh, Loads, Copies, LoadCopied, LoadThenCopy}
use Rattle.conduct.proofs.Tests.{either_left, either_right, pick-both}
use Rattle.conduct.proofs.Writes.{prefetch-there}
use Rattle.conduct.proofs.Prefetches.{prefetch-answers}
use Rattle.conduct.proofs.Refused.{accepted-in_range, accepted-when}
use Rattle.conduct.proofs.Calls.{accepted-write}
use Rattle.conduct.proofs.Ranged.{range-kept}

-- what a register shows of a device
abbrev shown : Device → ℕ → Answer
shown d o = value_at o d.registers d.bank.lock d.bank.victim d.pending

-- a prefetch that is not refused is kept
kept-is : (v old : ℕ) (r : Answer) → is_refusal r ≡ false → prefetch_kept v old r ≡ v
kept-is v old (Answer.Address x) h = refl
kept-is v old (Answer.Fault k) h = refl
kept-is v old (Answer.Value x) h = refl
kept-is v old Answer.Done h = refl
kept-is v old (Answer.Refused k) h = absurd (true≢false h)

-- the lock register and the halves of the base
lock_bits : (v : ℕ) → v < 2 ^ 16 → v / 1024 % 64 * 1024 + v / 16 % 64 % 64 * 16 ≡ v / 16 * 16
lock_bits v h = omega arith

high_bits : (b v : ℕ) → (v * 65536 + b % 65536) / 65536 ≡ v
high_bits b v = omega arith

low_bits_lem : (b v : ℕ) → v < 2 ^ 16 → (b / 65536 * 65536 + v / 128 * 128) % 65536 ≡ v / 128 * 128
low_bits_lem b v h = omega arith

module _ (m : Lent) (p : Prices) (b : Bill) (d : Device) (v : ℕ) where
  abbrev Shows : ℕ → Type 0
  Shows o = Clear (write_refusals m p b d o v) → o ≢ acknowledge_at → shown (carried m p b d (command_of o v)).device o ≡ Answer.Value (kept_bits o v)

  set_shows : (n : ℕ) → shown (carried m p b d (Command.Set (Setting.Control n))).device control_at ≡ Answer.Value n
  unfolding value_at listed pick
  set_shows n = refl

  fresh_shows : shown fresh_device control_at ≡ Answer.Value 0
  unfolding value_at listed pick
  fresh_shows = refl

  control_shows : shown (carried m p b d (control_command v)).device control_at ≡ Answer.Value (pick (eqb (v % 2) 1) (v / 32 % 2 * 32 + v % 8) 0)
  unfolding control_command
  control_shows =
      pick-both (λ (c : Command) (n : ℕ). shown (carried m p b d c).device control_at ≡ Answer.Value n) _ _ _ _ _ (λ _. set_shows (v / 32 % 2 * 32 + v % 8)) (λ _. fresh_shows)

  lock_set : (l w : ℕ) → shown (carried m p b d (Command.Tend (Tending.Lock l w))).device lock_at ≡ Answer.Value (l % 64 * 1024 + w % 64 * 16)
  unfolding value_at listed pick
  lock_set l w = refl

  lock_legal : is_malformed lock_at v ≡ false → (ltb (v / 1024) slots and ltb (v / 16 % 64) slots) ≡ true
  unfolding is_malformed ◌and◌ ◌or◌
  lock_legal h =
      let e = either_left (leb slots (v / 1024) or leb slots (v / 16 % 64)) false h in
      let l = lt-ltb (v / 1024) slots (leb-false slots (v / 1024) (either_left _ _ e)) in
      let r = lt-ltb (v / 16 % 64) slots (leb-false slots (v / 16 % 64) (either_right (leb slots (v / 1024)) _ e)) in
      and_yes _ _ l ∙ r

  lock_tends : is_malformed lock_at v ≡ false → lock_command v ≡ Command.Tend (Tending.Lock (v / 1024) (v / 16 % 64))
  unfolding lock_command
  lock_tends h = pick_yes _ _ _ (lock_legal h)

  lock_shows : v < 2 ^ 16 → is_malformed lock_at v ≡ false → shown (carried m p b d (lock_command v)).device lock_at ≡ Answer.Value (v / 16 * 16)
  lock_shows fit h =
      subst (λ (c : Command). shown (carried m p b d c).device lock_at ≡ Answer.Value (v / 16 * 16)) (sym (lock_tends h))
      (lock_set (v / 1024) (v / 16 % 64) ∙ ap Answer.Value (lock_bits v fit))

  shows : v < 2 ^ 16 → (o : ℕ) → Shows o
  unfolding command_of kept_bits value_at listed pick ◌or◌
  shows fit =
      by_offset Shows
      (λ c _. ap Answer.Value (kept-is (v % 2 ^ 14) d.registers.prefetch (prefetch_decided (look m d (page_at v)) d.bank.cam (page_at v)).answer
      (prefetch-answers m d (page_at v) (prefetch-there m p b d v c))))
      (λ c. absurd (true≢false c.1.1.0))
      (λ c _. control_shows)
      (λ c. absurd (true≢false c.1.1.0))
      (λ c. absurd (true≢false c.1.1.0))
      (λ c. absurd (true≢false c.1.1.0))
      (λ c n. absurd (n refl))
      (λ c _. ap Answer.Value (high_bits d.registers.base.0 v))
      (λ c _. ap Answer.Value (low_bits_lem d.registers.base.0 v fit))
      (λ c _. lock_shows fit c.1.1.1.1.1.0)
      (λ c _. refl)
      (λ c _. refl)
      (λ c _. refl)
      (λ c _. refl)
      (λ c _. refl)
      (λ c _. refl)
      (λ c _. refl)
      (λ c. absurd (true≢false c.1.1.0))
      (λ c. absurd (true≢false c.1.1.0))
      (λ c. absurd (true≢false c.1.1.0))
      (λ c. absurd (true≢false c.1.1.0))
      (λ o e c. absurd (true≢false (sym e ∙ c.1.0)))

-- a read of a register that was just written goes past its refusals
reads_back : (d : Device) (o v : ℕ) → in_range d ≡ true → no_register o ≡ false → o ≢ acknowledge_at → shown d o ≡ Answer.Value v → (read_of d o).answer ≡ Answer.Value v
unfolding read_of
reads_back d o v h n k e =
    ap (λ t. t.answer) (clear_goes_on (told_refused d) (told d (shown d o)) (read_refusals d o) (ap not h, (n, (ne_eqb o acknowledge_at k, tt)))) ∙ e

pub read_back : ReadBack
read_back m d b b' o v p bytes fit n a =
    ap Said.Answered
    (reads_back (write_of m p b d o v).device o (kept_bits o v)
    (range-kept m d b (write o v p) bytes fit (accepted-in_range m d b (write o v p) a)) ((accepted-when m d b (write o v p)).0 a).1.0 n
    (accepted-write m p b d (λ (x : Outcome). shown x.device o ≡ Answer.Value (kept_bits o v)) o v (λ c. shows m p b d v fit o c n) a))

-- a register shows its part of the device
lock-whole : (lock victim : ℕ) → lock < slots → victim < slots → lock % 64 * 1024 + victim % 64 * 16 ≡ lock * 1024 + victim * 16
lock-whole lock victim l v = omega arith

is-shown : (d : Device) → in_range d ≡ true → (o : ℕ) → Clear (read_refusals d o) → shown d o ≡ Answer.Value (shown_of d o)
unfolding in_range value_at shown_of listed pick
is-shown d h =
    let k = in_range_lem d.bank (and_right (pending_ok d.pending) _ (and_right (registers_ok d.registers) _ h)) in
    by_offset (λ (o : ℕ). Clear (read_refusals d o) → shown d o ≡ Answer.Value (shown_of d o))
    (λ _. refl) (λ _. refl) (λ _. refl) (λ _. refl) (λ _. refl) (λ _. refl)
    (λ c. absurd (true≢false c.1.1.0))
    (λ _. refl) (λ _. refl)
    (λ _. ap Answer.Value (lock-whole d.bank.lock d.bank.victim k.lock k.victim))
    (λ _. refl) (λ _. refl) (λ _. refl) (λ _. refl) (λ _. refl) (λ _. refl)
    (λ _. refl) (λ _. refl) (λ _. refl) (λ _. refl) (λ _. refl)
    (λ o e c. absurd (true≢false (sym e ∙ c.1.0)))

pub read-shown : ReadShown
unfolding read_of
read-shown m d b o =
    refuses_by (told_refused d) (told d (shown d o)) (λ (t : Told). is_refusal t.answer ≡ false → Said.Answered t.answer ≡ Said.Answered (Answer.Value (shown_of d o))) (read_refusals d o)
    (λ k r. absurd (true≢false r)) (λ c _. ap Said.Answered (is-shown d (not-false _ c.0) o c))

-- reset
module _ (m : Lent) (d : Device) (b : Bill) (p : Prices) (v : ℕ) (h : in_range d ≡ true) (e : v % 2 ≡ 0) where
  control_clear : Clear (write_refusals m p b d control_at v)
  unfolding no_register is_malformed is_untimely write_lacks ◌and◌ ◌or◌
  control_clear = (ap not h, (refl, (refl, (refl, (refl, (refl, (refl, (refl, (refl, tt)))))))))

  reset_command : command_of control_at v ≡ Command.Reset
  unfolding command_of listed pick control_command
  reset_command = pick_no (eqb (v % 2) 1) _ _ (ne_eqb (v % 2) 1 (λ q. omega (arith, q, e)))

  reset-write : write_of m p b d control_at v ≡ carried m p b d Command.Reset
  unfolding write_of
  reset-write =
      clear_goes_on (refused_with d b) (carried m p b d (command_of control_at v)) (write_refusals m p b d control_at v) control_clear
      ∙ ap (carried m p b d) reset_command

pub reset_fresh : ResetFresh
reset_fresh m d b p v h e =
    subst (λ (x : Outcome). Resets b (step_out x)) (sym (reset-write m d b p v h e)) (record { device = refl; bill = refl; tally = refl; said = refl })

-- load and copy
module _ (m : Lent) (d : Device) (b : Bill) (p : Prices) (v : ℕ) where
  none_command : v % 4 ≡ 0 → command_of load_at v ≡ Command.Nothing
  unfolding command_of listed pick load_command
  none_command e = pick_yes (eqb (v % 4) 0) _ _ (eq-eqb (v % 4) 0 e)

  none_is : v % 4 ≡ 0 → (step m d b (write load_at v p)).device ≡ d
  unfolding write_of
  none_is e =
      refuses_by (refused_with d b) (carried m p b d (command_of load_at v)) (λ (x : Outcome). x.device ≡ d) (write_refusals m p b d load_at v)
      (λ k. refl) (λ _. ap (λ (c : Command). (carried m p b d c).device) (none_command e))

  load_command_lem : v % 4 ≡ 1 → command_of load_at v ≡ Command.Load
  unfolding command_of listed pick load_command
  load_command_lem e = pick_no (eqb (v % 4) 0) _ _ (ne_eqb (v % 4) 0 (λ q. omega (arith, q, e))) ∙ pick_yes (eqb (v % 4) 1) _ _ (eq-eqb (v % 4) 1 e)

  copy_command : v % 4 ≡ 2 → command_of load_at v ≡ Command.Copy
  unfolding command_of listed pick load_command
  copy_command e =
      pick_no (eqb (v % 4) 0) _ _ (ne_eqb (v % 4) 0 (λ q. omega (arith, q, e)))
      ∙ pick_no (eqb (v % 4) 1) _ _ (ne_eqb (v % 4) 1 (λ q. omega (arith, q, e)))
      ∙ pick_yes (eqb (v % 4) 2) _ _ (eq-eqb (v % 4) 2 e)

  loaded-is : v % 4 ≡ 1 → Accepted m d b (write load_at v p) → (step m d b (write load_at v p)).device ≡ with_loaded d
  loaded-is e = accepted-write m p b d (λ (x : Outcome). x.device ≡ with_loaded d) load_at v (λ _. ap (λ (c : Command). (carried m p b d c).device) (load_command_lem e))

  copied_is : v % 4 ≡ 2 → Accepted m d b (write load_at v p) → (step m d b (write load_at v p)).device ≡ with_copy d
  copied_is e = accepted-write m p b d (λ (x : Outcome). x.device ≡ with_copy d) load_at v (λ _. ap (λ (c : Command). (carried m p b d c).device) (copy_command e))

-- the victim of a device in range is a slot, and its staged entry is in range
module _ (d : Device) (h : in_range d ≡ true) where
  victim-slot : d.bank.victim < slots
  unfolding in_range
  victim-slot = (in_range_lem d.bank (and_right (pending_ok d.pending) _ (and_right (registers_ok d.registers) _ h))).victim

  staged_back : entry_of (words_of d.registers.staged) ≡ d.registers.staged
  unfolding in_range
  staged_back = entry_words_lem d.registers.staged (registers_in-range d.registers (and_left _ _ h)).staged

  load_has : LanesFit d.bank → slot_at (with_loaded d).bank d.bank.victim ≡ words_of d.registers.staged
  load_has l =
      stored_has d.bank (words_of d.registers.staged) d.bank.victim
      (subst (λ (n : ℕ). d.bank.victim < n) (sym l.0) victim-slot) (subst (λ (n : ℕ). d.bank.victim < n) (sym l.1) victim-slot)

  loads : LanesFit d.bank → Loads d (with_loaded d)
  loads l = record { has = load_has l; others = stored_keeps d.bank (words_of d.registers.staged) d.bank.victim; registers = refl }

pub load-copied : LoadCopied
load-copied m d b p v = record {
  neither = none_is m d b p v;
  load = λ l e a. subst (Loads d) (sym (loaded-is m d b p v e a)) (loads d (accepted-in_range m d b (write load_at v p) a) l);
  copy = λ e a. subst (Copies d) (sym (copied_is m d b p v e a)) (record { has = refl; bank = refl });
}

pub load_then_copy : LoadThenCopy
load_then_copy m d e b b' p p' v w l h g a q x =
    let r = accepted-in_range m d b (write load_at v p) a in
    ap (λ (y : Device). y.registers.copied) (copied_is m e b' p' w g x)
    ∙ ap (λ (y : Device). entry_of (slot_at y.bank y.bank.victim)) (q ∙ loaded-is m d b p v h a)
    ∙ ap entry_of (load_has d r l)
    ∙ staged_back d r
