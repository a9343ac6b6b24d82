-- An offset in a memory has 28 bits. Assumes nothing.
use Rattle.std.proofs.Common.{Option, Some, None}
use Rattle.run.specs.Names.{◌≡◌, Bool, true, ℕ, ◌%◌, ◌^◌, ◌≤◌, Lent, Place, Prices, Call, stepped, Bench}
use Rattle.run.proofs.Names.{refl, sym, ◌∙◌, ap, arith, lent_ok}
use mathlib.Core.Bool.{false, true≢false}
use mathlib.Core.Path.{subst}
use Rattle.bill.specs.declared.Bill.{Bill}
use Rattle.memory.specs.Memory.{longest, Inside}
use Rattle.memory.specs.declared.Reads.{Reads}
use Rattle.memory.proofs.Places.{ok_short, on_ok, ext_ok}
use Rattle.walk.specs.Statements.{LiesAt, LastLies}
use Rattle.walk.proofs.Walks.{read-refused}
use Rattle.unit.specs.Machine
use Rattle.unit.specs.Machine.{step}
use Rattle.unit.specs.declared.Device.{Device}
use Rattle.conduct.specs.Placed.{reads_of}
use Rattle.conduct.specs.Refused.{said_refused}
use Rattle.conduct.proofs.Placed.{comes_from_last, refused-nowhere}
use Rattle.run.specs.Answers.{cut_place}

short : (k : ℕ) → k ≤ longest → k % 2 ^ 28 ≡ k
short k h = omega arith

-- a word was read
abbrev is_word : Option (ℕ × Place) → Bool
is_word (Some (w, p)) = true
is_word None = false

module _ (m : Lent) where
  pub inside-whole : (a : ℕ) (p : Place) → lent_ok m ≡ true → Inside m a p → cut_place p ≡ p
  inside-whole a (Place.OnChip k) h i = let l = ok_short _ _ (on_ok m h) in ap Place.OnChip (short k (omega (arith, i.0, l)))
  inside-whole a (Place.External k) h i = let l = ok_short _ _ (ext_ok m h) in ap Place.External (short k (omega (arith, i.0, l)))
  inside-whole a Place.Nowhere h i = refl

  lies_whole : (a : ℕ) (p : Place) → LiesAt m a p → cut_place p ≡ p
  lies_whole a p l = by (lent_ok m) refl
    where
      by : (t : Bool) → lent_ok m ≡ t → cut_place p ≡ p
      by true h = inside-whole a p h l.inside
      by false h = absurd (true≢false (sym (ap is_word l.word) ∙ ap is_word (read-refused m h a)))

  last_whole : (r : Reads) (p : Place) → LastLies m r p → cut_place p ≡ p
  last_whole Reads.Nothing p l = subst (λ (x : Place). cut_place x ≡ x) (sym l) refl
  last_whole (Reads.One s) p l = lies_whole s.at.0 p l.1
  last_whole (Reads.Two s t) p l = lies_whole t.at.0 p l.1

  -- where the last word of a call's walk lies
  step-whole : (d : Device) (b : Bill) (c : Machine.Call) → cut_place (step m d b c).from ≡ (step m d b c).from
  step-whole d b c = by (said_refused (step m d b c).said) refl
    where
      by : (t : Bool) → said_refused (step m d b c).said ≡ t → cut_place (step m d b c).from ≡ (step m d b c).from
      by true h = subst (λ (x : Place). cut_place x ≡ x) (sym (refused-nowhere m d b c h)) refl
      by false h = last_whole (reads_of m d c) (step m d b c).from (comes_from_last m d b c h)

  pub stepped-whole : (p : Prices) (b : Bench) (c : Option Call) → cut_place (stepped m p b c).from ≡ (stepped m p b c).from
  stepped-whole p b (Some (Call.Write o v)) = step-whole b.device b.bill (Machine.write o v p)
  stepped-whole p b (Some (Call.Read o)) = step-whole b.device b.bill (Machine.read o)
  stepped-whole p b (Some (Call.Request va a)) = step-whole b.device b.bill (Machine.request va a p)
  stepped-whole p b (Some Call.Drop) = step-whole b.device b.bill Machine.drop-fault
  stepped-whole p b (Some (Call.Shift va)) = step-whole b.device b.bill (Machine.shift va)
  stepped-whole p b None = refl
