-- What refusal 16 names, and what a refusal leaves. Assumes nothing.
use Rattle.recording.specs.declared.RecordingError.{RecordingError}
use Rattle.std.proofs.Common.{Result, Ok, Err}
use Rattle.recording.specs.declared.Flaw.{Flaw}
use Rattle.recording.specs.Names.{◌≡◌, List, Bool, true, false, ℕ, zero, suc, ◌+◌, ◌*◌, ◌<◌, take, drop, min, ltb}
use Rattle.recording.specs.Names.{is_good, call_at, Progress}
use Rattle.recording.specs.Blocks.{most_calls}
use Rattle.recording.specs.Writing.{Wrote, records_in, bad_call, recording_of, written_number}
use Rattle.recording.specs.Reading.{progress, block_at, blocks_in, call_bytes, heard, heard_as, onward}
use Rattle.recording.specs.Statements.{heard_on, RefusedCall, RefusedBlock, RefusesFirst}
use Rattle.recording.proofs.Names.{refl, sym, ◌∙◌, ap, arith, subst, pick_yes, pick_no, pick_by, lt-ltb, length-take, length-drop, block_taken, heard_from}
use Rattle.recording.proofs.Names.{filled_with, recording_written, recording_read}
use Rattle.recording.proofs.Firsts.{first-le, first_good, first-wrong, first-is}
use Rattle.recording.proofs.Passed.{next_passed, next_carried}
use Rattle.recording.proofs.Streaming.{block_by_block}
use borrow.Author.Tests.{ltb-true}
use mathlib.Core.Logic.{inl, inr, ⊎_elim}
use native.Mathlib.Decide.{dec_le}
use lib.Seq.{take-add}

-- an answer of bytes put is no 16, and where it is a refusal the memory is as it was
filled-fine : (s before : List ℕ) (i : ℕ) → (filled_with s before).answer ≡ Err (RecordingError.Bad i) → ⊥
unfolding filled_with
filled-fine s before i =
    pick_by (λ (w : Wrote). w.answer ≡ Err (RecordingError.Bad i) → ⊥) _ _ _ (λ _ e. let z : ◌≡◌ {A = ℕ} 0 1 = cc in omega arith) (λ _ e. let z : ◌≡◌ {A = ℕ} 0 1 = cc in omega arith)

abbrev Keeps : List ℕ → Wrote → Type 0
Keeps before w = (written_number w.answer ≡ 0 → ⊥) → w.memory ≡ before

filled_keeps : (s before : List ℕ) → Keeps before (filled_with s before)
unfolding filled_with
filled_keeps s before = pick_by (Keeps before) _ _ _ (λ _ _. refl) (λ _ h. absurd (h refl))

-- the writer
module _ (l before : List ℕ) where
  looked : ℕ
  looked = min (records_in l) most_calls

  write-first : (i : ℕ) → (recording_written l before).answer ≡ Err (RecordingError.Bad i) → RefusedCall l i
  unfolding recording_written looked
  write-first i e = by_test (ltb (bad_call l) (records_in l)) refl
    where
      named : (k : ℕ) → bad_call l ≡ k → k < records_in l → RefusedCall l k
      named k f h =
          record {
            there = h;
            within = omega (arith, f, first-le l 0 looked);
            before = λ j g. first_good l 0 looked j (omega arith) (omega (arith, f));
            wrong = elim (dec_le most_calls k) [
              | yes g ↦ inl (omega (arith, f, first-le l 0 looked))
              | no g ↦ inr (ap (λ (j : ℕ). is_good (call_at l (12 * j))) (sym f) ∙ first-wrong l 0 looked (omega (arith, f)))
            ];
          }

      by_test : (t : Bool) → ltb (bad_call l) (records_in l) ≡ t → RefusedCall l i
      by_test true t =
          let f : Err (RecordingError.Bad (bad_call l)) ≡ Err (RecordingError.Bad i) = ap (λ (w : Wrote). w.answer) (sym (pick_yes _ _ _ t)) ∙ e in
          let g : bad_call l ≡ i = cc in
          named i g (omega (arith, g, ltb-true (bad_call l) (records_in l) t))
      by_test false t = absurd (filled-fine (recording_of l) before i (ap (λ (w : Wrote). w.answer) (sym (pick_no _ _ _ t)) ∙ e))

  first-write : (i : ℕ) → RefusedCall l i → (recording_written l before).answer ≡ Err (RecordingError.Bad i)
  unfolding recording_written looked
  first-write i h =
      let f : bad_call l ≡ i =
      first-is l 0 looked i (omega arith) (omega (arith, h.there, h.within)) (λ j _ g. h.before j g)
      (λ g. ⊎_elim (λ e. absurd (omega (arith, e, h.there))) (λ w. w) h.wrong) in
      ap (λ (w : Wrote). w.answer) (pick_yes _ _ _ (lt-ltb (bad_call l) (records_in l) (omega (arith, f, h.there)))) ∙ ap (λ k. Err (RecordingError.Bad k)) f

  write_keeps : Keeps before (recording_written l before)
  unfolding recording_written
  write_keeps = pick_by (Keeps before) _ _ _ (λ _ _. refl) (λ _. filled_keeps (recording_of l) before)

-- the reader: from block p .blocks on, where those before it are heard whole
module _ (r : List ℕ) where
  heard-more : (p q : Progress) → p.blocks < blocks_in r → heard (take (512 * p.blocks) r) ≡ Ok p → block_taken p (block_at r p.blocks) ≡ Ok q
      → heard (take (512 * q.blocks) r) ≡ Ok q
  heard-more p q h e t =
      let long = (next_passed p (block_at r p.blocks) q t).long in
      let front = length-take (512 * p.blocks) r in
      let piece = length-take 512 (drop (512 * p.blocks) r) in
      let rest = length-drop (512 * p.blocks) r in
      ap (λ (k : ℕ). heard (take k r))
      (let z : 512 * q.blocks ≡ 512 * p.blocks + 512 = omega (arith, ap (λ (x : Progress). x.blocks) (next_carried p (block_at r p.blocks) q t)) in z)
      ∙ ap heard (take-add (512 * p.blocks) 512 r)
      ∙ block_by_block.one_more (take (512 * p.blocks) r) (block_at r p.blocks) (omega arith) (omega arith) (omega arith)
      ∙ ap (λ (x : Result Progress ℕ). heard_on x (block_at r p.blocks)) e
      ∙ ap (λ (x : Result Progress Flaw). onward x Ok p.blocks) t

  bad-first : (i k : ℕ) (p : Progress) → p.blocks + k ≡ blocks_in r → heard (take (512 * p.blocks) r) ≡ Ok p → heard_from r p k ≡ Err i → RefusedBlock r i
  unfolding heard_from
  bad-first i zero p c e h = absurd (let z : ◌≡◌ {A = ℕ} 0 1 = cc in omega arith)
  bad-first i (suc k) p c e h = by_block (bad-first i k) (block_taken p (block_at r p.blocks)) refl
    where
      by_block : ((q : Progress) → q.blocks + k ≡ blocks_in r → heard (take (512 * q.blocks) r) ≡ Ok q → heard_from r q k ≡ Err i → RefusedBlock r i)
          → (t : Result Progress Flaw) → block_taken p (block_at r p.blocks) ≡ t → RefusedBlock r i
      by_block on (Ok q) t =
          on q (omega (arith, ap (λ (x : Progress). x.blocks) (next_carried p (block_at r p.blocks) q t))) (heard-more p q (omega arith) e t)
          (sym (ap (λ (x : Result Progress Flaw). onward x (λ y. heard_from r y k) p.blocks) t) ∙ h)
      by_block on (Err w) t =
          let f : Err p.blocks ≡ Err i = sym (ap (λ (x : Result Progress Flaw). onward x (λ y. heard_from r y k) p.blocks) t) ∙ h in
          let g : p.blocks ≡ i = cc in
          subst (RefusedBlock r) g (record { there = omega arith; carried = p; before = e; flaw = w; wrong = t })

  read_first : (before : List ℕ) (i : ℕ) → (recording_read r before).answer ≡ Err (RecordingError.Bad i) → RefusedBlock r i
  unfolding recording_read
  read_first before i e = by_heard (heard r) refl
    where
      by_heard : (h : Result Progress ℕ) → heard r ≡ h → RefusedBlock r i
      by_heard (Ok p) t = absurd (filled-fine (call_bytes r) before i (ap (λ (x : Result Progress ℕ). (heard_as x (call_bytes r) before).answer) (sym t) ∙ e))
      by_heard (Err j) t =
          let f : Err (RecordingError.Bad j) ≡ Err (RecordingError.Bad i) = ap (λ (x : Result Progress ℕ). (heard_as x (call_bytes r) before).answer) (sym t) ∙ e in
          let g : j ≡ i = cc in
          bad-first i (blocks_in r) (progress 0 0) (omega arith) block_by_block.none (t ∙ ap Err g)

  read_keeps : (before : List ℕ) → Keeps before (recording_read r before)
  unfolding recording_read
  read_keeps before = by_heard (heard r)
    where
      by_heard : (h : Result Progress ℕ) → Keeps before (heard_as h (call_bytes r) before)
      by_heard (Ok p) = filled_keeps (call_bytes r) before
      by_heard (Err i) = λ _. refl

pub refuses-first : RefusesFirst
refuses-first =
    record {
      write = λ l before i. (write-first l before i, first-write l before i);
      read = read_first;
      write_keeps = write_keeps;
      read_keeps = read_keeps;
    }
