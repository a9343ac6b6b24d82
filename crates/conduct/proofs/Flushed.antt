-- Demand 2, the flushes: V is kept exactly where it should be, and nothing else changes. Assumes nothing.
use Rattle.conduct.specs.Names.{◌≡◌, true, not, ℕ, ◌/◌, ◌%◌, pick, ◌and◌, word_valid, word_matches, cam_address, listed, Clear, in_range}
use Rattle.conduct.specs.Names.{write_refusals, flush_at, entry_flush_at, VirtualAddress, Lent, Bill, Prices, Command, Tending, Device, Outcome}
use Rattle.conduct.proofs.Names.{refl, sym, ◌∙◌, ap, subst, arith, eq-eqb, ne_eqb, ◌or◌, word_flushed, word_flushed_at, pick_yes, pick_no}
use Rattle.conduct.proofs.Names.{pick_by, and_yes, no_register, when_bit, command_of, set_bank, refused_with, is_malformed, is_untimely, write_lacks}
use Rattle.conduct.proofs.Names.{carried, write_of, clear_goes_on, refuses_by}
use Rattle.page.proofs.Picks.{and_no}
use Rattle.page.proofs.Slot.{dropped-off, dropped-rest}
use Rattle.bank.specs.Changes.{bank_flushed, bank_flushed_at}
use Rattle.lanes.proofs.Flushes.{flush_word, flush_exact as word-exact, entry-word}
use Rattle.conduct.specs.Flushed.{flush_keeps, entry_flush_keeps, cam_at, ValidWhere, Flushes, FlushExact}

-- a flushed word keeps all but V
abbrev Rest : ℕ → ℕ → Type 0
Rest w x = (x / 8 ≡ w / 8) × (x % 4 ≡ w % 4)

flushed-rest : (w : ℕ) → Rest w (word_flushed w)
unfolding word_flushed
flushed-rest w = pick_by (Rest w) _ _ _ (λ _. (refl, refl)) (λ _. dropped-rest w)

flushed_at_rest : (va : VirtualAddress) (w : ℕ) → Rest w (word_flushed_at va w)
unfolding word_flushed_at
flushed_at_rest va w = pick_by (Rest w) _ _ _ (λ _. dropped-rest w) (λ _. (refl, refl))

flushed_at_valid : (va : VirtualAddress) (w : ℕ) → word_valid (word_flushed_at va w) ≡ (not (word_matches w va) and word_valid w)
unfolding word_flushed_at
flushed_at_valid va w =
    pick_by (λ (x : ℕ). word_valid x ≡ (not (word_matches w va) and word_valid w)) _ _ _
    (λ e. dropped-off w ∙ sym (and_no _ _ (ap not e)))
    (λ e. sym (and_yes _ _ (ap not e)))

-- a device with the CAM lane rewritten word by word
module _ (d : Device) where
  all_exact : ValidWhere flush_keeps d (set_bank d (bank_flushed d.bank))
  all_exact = record {
    valid = λ j. word-exact d.bank.cam j;
    above = λ j. ap (λ (x : ℕ). x / 8) (flush_word d.bank.cam j) ∙ (flushed-rest (cam_at d j)).0;
    below = λ j. ap (λ (x : ℕ). x % 4) (flush_word d.bank.cam j) ∙ (flushed-rest (cam_at d j)).1;
    ram = refl;
    lock = refl;
    victim = refl;
    registers = refl;
    pending = refl;
  }

  abbrev va : VirtualAddress
  va = cam_address d.registers.staged

  entry_exact : ValidWhere (entry_flush_keeps d) d (set_bank d (bank_flushed_at d.bank va))
  entry_exact = record {
    valid = λ j. ap word_valid (entry-word va d.bank.cam j) ∙ flushed_at_valid va (cam_at d j);
    above = λ j. ap (λ (x : ℕ). x / 8) (entry-word va d.bank.cam j) ∙ (flushed_at_rest va (cam_at d j)).0;
    below = λ j. ap (λ (x : ℕ). x % 4) (entry-word va d.bank.cam j) ∙ (flushed_at_rest va (cam_at d j)).1;
    ram = refl;
    lock = refl;
    victim = refl;
    registers = refl;
    pending = refl;
  }

module _ (m : Lent) (d : Device) (b : Bill) (p : Prices) (v : ℕ) where
  -- a flush register has no refusal of its own
  flush_clear : in_range d ≡ true → Clear (write_refusals m p b d flush_at v)
  unfolding no_register is_malformed is_untimely write_lacks ◌and◌ ◌or◌
  flush_clear h = (ap not h, (refl, (refl, (refl, (refl, (refl, (refl, (refl, (refl, tt)))))))))

  entry_clear : in_range d ≡ true → Clear (write_refusals m p b d entry_flush_at v)
  unfolding no_register is_malformed is_untimely write_lacks ◌and◌ ◌or◌
  entry_clear h = (ap not h, (refl, (refl, (refl, (refl, (refl, (refl, (refl, (refl, tt)))))))))

  goes : (o : ℕ) (t : Tending) → command_of o v ≡ when_bit v t → Clear (write_refusals m p b d o v) → v % 2 ≡ 1 → write_of m p b d o v ≡ carried m p b d (Command.Tend t)
  unfolding write_of when_bit
  goes o t e c h =
      clear_goes_on (refused_with d b) (carried m p b d (command_of o v)) (write_refusals m p b d o v) c
      ∙ ap (carried m p b d) (e ∙ pick_yes _ _ _ (eq-eqb (v % 2) 1 h))

  stays : (o : ℕ) (t : Tending) → command_of o v ≡ when_bit v t → v % 2 ≡ 0 → (write_of m p b d o v).device ≡ d
  unfolding write_of when_bit
  stays o t e h =
      refuses_by (refused_with d b) (carried m p b d (command_of o v)) (λ (x : Outcome). x.device ≡ d) (write_refusals m p b d o v) (λ k. refl)
      (λ _. ap (λ (c : Command). (carried m p b d c).device) (e ∙ pick_no _ _ _ (ne_eqb (v % 2) 1 (λ q. omega (arith, q, h)))))

  at_flush : command_of flush_at v ≡ when_bit v Tending.Flush
  unfolding command_of listed pick
  at_flush = refl

  at_entry : command_of entry_flush_at v ≡ when_bit v Tending.FlushEntry
  unfolding command_of listed pick
  at_entry = refl

  flushes : Flushes m d b p v
  flushes = record {
    all = λ r h. subst (λ (x : Outcome). ValidWhere flush_keeps d x.device) (sym (goes flush_at Tending.Flush at_flush (flush_clear r) h)) (all_exact d);
    entry = λ r h. subst (λ (x : Outcome). ValidWhere (entry_flush_keeps d) d x.device) (sym (goes entry_flush_at Tending.FlushEntry at_entry (entry_clear r) h)) (entry_exact d);
    none = λ h. (stays flush_at Tending.Flush at_flush h, stays entry_flush_at Tending.FlushEntry at_entry h);
  }

pub flush_exact : FlushExact
flush_exact = flushes
