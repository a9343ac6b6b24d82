-- What is written, or why not. Assumes nothing.
use Rattle.recording.specs.declared.RecordingError.{RecordingError}
use Rattle.std.proofs.Common.{Result, Ok, Err}
use Rattle.recording.specs.Names.{◌≡◌, List, ℕ, ◌*◌, ◌≤◌, ◌<◌, length, pasted, Progress}
use Rattle.recording.specs.Blocks.{most_blocks}
use Rattle.recording.specs.Writing.{wrote, records_in, bad_call, blocks_for, recording_of}
use Rattle.recording.specs.Reading.{call_bytes, heard, heard_as}
use Rattle.recording.proofs.Names.{sym, ◌∙◌, ap, ap₂, arith, pick_yes, pick_no, lt-ltb, le-ltb, filled_with, recording_written, recording_read}
use Rattle.recording.proofs.Firsts.{CallsAccepted}
use Rattle.recording.proofs.Turns.{blocks_length}

module _ (s before : List ℕ) (n : ℕ) (long : length s ≡ n) where
  pub filled_short : length before < n → wrote (Err (RecordingError.TooShort n)) before ≡ filled_with s before
  unfolding filled_with
  filled_short h = sym (pick_yes _ _ _ (lt-ltb (length before) (length s) (omega arith)) ∙ ap (λ (k : ℕ). wrote (Err (RecordingError.TooShort k)) before) long)

  pub filled-all : (out : List ℕ) → n ≤ length before → out ≡ pasted before 0 s → wrote (Ok n) out ≡ filled_with s before
  unfolding filled_with
  filled-all out h e =
      sym (pick_no _ _ _ (le-ltb (length before) (length s) (omega arith)) ∙ ap₂ (λ (k : ℕ) (o : List ℕ). wrote (Ok k) o) long (sym e))

module _ (l before : List ℕ) where
  pub write-bad : (b : ℕ) → b ≡ bad_call l → b < records_in l → wrote (Err (RecordingError.Bad b)) before ≡ recording_written l before
  unfolding recording_written
  write-bad b e h =
      ap (λ (x : ℕ). wrote (Err (RecordingError.Bad x)) before) e
      ∙ sym (pick_yes _ _ _ (lt-ltb (bad_call l) (records_in l) (omega (arith, e))))

  pub write-good : records_in l ≤ bad_call l → filled_with (recording_of l) before ≡ recording_written l before
  unfolding recording_written
  write-good h = sym (pick_no _ _ _ (le-ltb _ _ h))

pub recording_length : (l : List ℕ) → length (recording_of l) ≡ 512 * blocks_for l
recording_length l = blocks_length l 0 (blocks_for l)

-- accepted calls have no more blocks than the most
pub blocks_few : (l : List ℕ) → CallsAccepted l → blocks_for l ≤ most_blocks
blocks_few l h = omega (arith, h.few)

module _ (r before : List ℕ) where
  pub read-good : (p : Progress) → heard r ≡ Ok p → filled_with (call_bytes r) before ≡ recording_read r before
  unfolding recording_read
  read-good p h = sym (ap (λ (x : Result Progress ℕ). heard_as x (call_bytes r) before) h)

  pub read-bad : (i : ℕ) → heard r ≡ Err i → wrote (Err (RecordingError.Bad i)) before ≡ recording_read r before
  unfolding recording_read
  read-bad i h = sym (ap (λ (x : Result Progress ℕ). heard_as x (call_bytes r) before) h)
