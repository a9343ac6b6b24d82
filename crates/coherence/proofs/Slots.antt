-- A slot that a walk made agrees, one that is not valid agrees with anything, and fills and flushes keep every slot
-- in agreement. Assumes nothing.
use Rattle.std.proofs.Common.{Result, Ok}
use Rattle.walk.specs.declared.Unfound.{Unfound}
use Rattle.coherence.specs.Names.{ℕ, ◌<◌, ◌≡◌, Bool, true, false, List, eqb, get_or, limit, slots, by_access, VirtualAddress, Look}
use Rattle.coherence.proofs.Names.{arith, refl, sym, ◌∙◌, ap, ap₂, subst, replicate, eqb-true, pick_by, filled, InRange, by_found}
use Rattle.coherence.proofs.Names.{PhysicalAddress, Page, Lanes, Uniform}
use Prim.Native.Nat.{zero, suc}
use mathlib.Core.Bool.{false≢true}
use lib.ListN.{length-set, length-map}
use borrow.Author.Tests.{eqb-false}
use Rattle.page.specs.Words.{word_valid, word_dropped, word_flushed, word_flushed_at, made_cam, made_ram}
use Rattle.page.proofs.Slot.{made-matches, made_access, made-address, dropped-off, off-matches}
use Rattle.lanes.specs.Lanes.{flushed_all, flushed_entry}
use Rattle.bank.specs.Slots.{slot_at}
use Rattle.bank.specs.Changes.{next_slot, stored_at}
use Rattle.bank.proofs.Fills.{stored_keeps, stored_has}
use Rattle.lanes.proofs.Flushes.{flush_word, entry-word}
use Rattle.bank.proofs.Ranges.{next_slot-lt}
use Rattle.unit.specs.Names.{Words, Bank}
use Rattle.coherence.specs.Agreement.{Agrees}

module _ (look : Look) where
  -- a word that is not valid matches nothing
  pub off_agrees : (c r : ℕ) → word_valid c ≡ false → Agrees look c r
  off_agrees c r h va e = absurd (false≢true (sym (off-matches c va h) ∙ e))

  pub dropped_agrees : (c r : ℕ) → Agrees look (word_dropped c) r
  dropped_agrees c r = off_agrees (word_dropped c) r (dropped-off c)

  pub flushed_agrees : (c r : ℕ) → Agrees look c r → Agrees look (word_flushed c) r
  unfolding word_flushed
  flushed_agrees c r h = pick_by (λ (x : ℕ). Agrees look x r) _ _ _ (λ _. h) (λ _. dropped_agrees c r)

  pub flushed_at_agrees : (at : VirtualAddress) (c r : ℕ) → Agrees look c r → Agrees look (word_flushed_at at c) r
  unfolding word_flushed_at
  flushed_at_agrees at c r h = pick_by (λ (x : ℕ). Agrees look x r) _ _ _ (λ _. dropped_agrees c r) (λ _. h)

  -- what a walk makes agrees at every address of its page, where the tables agree with themselves
  pub made_agrees : Uniform limit look → (va : VirtualAddress) (p : Page) → va.0 < limit → (look va).found ≡ Ok p → p.access < 4
      → Agrees look (made_cam p.kind va.0) (made_ram p.kind p.frame.0 p.access)
  unfolding by_found
  made_agrees u va p l e n at h a =
      ap₂ (λ (x : ℕ) (y : PhysicalAddress). by_access x y a) (made_access p.kind p.frame.0 p.access n) (made-address p.kind p.frame.0 p.access va.0 at)
      ∙ sym (ap (λ (f : Result Page Unfound). (by_found at a (look at).reads f).answer) (u va at p l e (eqb-true _ _ (sym (made-matches p.kind va.0 at) ∙ h))))

  -- every slot of a bank agrees
  abbrev pub Held : Bank → Type 0
  Held b = Lanes look b.cam b.ram

  abbrev SlotAgrees : Words → Type 0
  SlotAgrees w = Agrees look w.cam w.ram

  -- a store of words that agree
  pub store_agrees : (b : Bank) (i : ℕ) (w : Words) → i < slots → SlotAgrees w → Held b → Held (stored_at b i w)
  store_agrees b i w l g h = record {
    cams = length-set b.cam i w.cam ∙ h.cams;
    rams = length-set b.ram i w.ram ∙ h.rams;
    agree = λ j. at j (eqb j i) refl;
  }
    where
      at : (j : ℕ) (t : Bool) → eqb j i ≡ t → SlotAgrees (slot_at (stored_at b i w) j)
      at j true e =
          subst (λ (n : ℕ). SlotAgrees (slot_at (stored_at b i w) n)) (sym (eqb-true _ _ e))
          (subst SlotAgrees (sym (stored_has b w i (omega (arith, h.cams, l)) (omega (arith, h.rams, l)))) g)
      at j false e = subst SlotAgrees (sym (stored_keeps b w i j (eqb-false _ _ e))) (h.agree j)

  pub fill_agrees : (b : Bank) (w : Words) → InRange b → SlotAgrees w → Held b → Held (filled b w)
  unfolding filled
  fill_agrees b w r g h = store_agrees b (next_slot b.victim b.lock) w (next_slot-lt slots b.victim b.lock r.victim r.lock) g h

  -- the flushes
  module _ (cam ram : List ℕ) (h : Lanes look cam ram) where
    pub flush_agrees : Lanes look (flushed_all cam) ram
    unfolding flushed_all
    flush_agrees = record {
      cams = length-map cam word_flushed ∙ h.cams;
      rams = h.rams;
      agree = λ j. subst (λ (c : ℕ). Agrees look c (get_or ram j 0)) (sym (flush_word cam j)) (flushed_agrees _ _ (h.agree j));
    }

    pub flush_at_agrees : (va : VirtualAddress) → Lanes look (flushed_entry va cam) ram
    unfolding flushed_entry
    flush_at_agrees va = record {
      cams = length-map cam (word_flushed_at va) ∙ h.cams;
      rams = h.rams;
      agree = λ j. subst (λ (c : ℕ). Agrees look c (get_or ram j 0)) (sym (entry-word va cam j)) (flushed_at_agrees va _ _ (h.agree j));
    }

  -- empty slots
  empty : (n i : ℕ) → ◌≡◌ {A = ℕ} (get_or (replicate {A = ℕ} n 0) i 0) 0
  empty zero i = refl
  empty (suc n) zero = refl
  empty (suc n) (suc i) = empty n i

  pub fresh_agrees : Lanes look (replicate slots 0) (replicate slots 0)
  fresh_agrees = record {
    cams = refl;
    rams = refl;
    agree = λ i. subst (λ (c : ℕ). Agrees look c (get_or (replicate slots 0) i 0)) (sym (empty slots i)) (off_agrees 0 _ refl);
  }
