-- What a recording's answer says has 32 bits. Assumes nothing.
use Rattle.std.proofs.Common.{Result, Ok, Err}
use Rattle.recording.specs.declared.RecordingError.{RecordingError}
use Rattle.page.specs.Ground.{[]}
use Rattle.capi.specs.Names.{◌≡◌, List, ℕ, ◌%◌, ◌^◌, written_value, recording_written, recording_read, ran, Ran}
use Rattle.capi.proofs.Names.{refl, ◌∙◌, ap, ap₂, arith, written_word, cut_written}
use Rattle.recording.specs.Writing.{Wrote, wrote}
use Rattle.recording.proofs.Values.{Small, written_small, read_small}
use Rattle.capi.specs.Boundary.{record_ran, recorded_ran}

whole : (w : Result ℕ RecordingError) → Small (wrote w []) → cut_written w ≡ w
whole (Ok n) h = refl
whole (Err (RecordingError.Bad i)) h = ap (λ (x : ℕ). Err (RecordingError.Bad x)) (let z : i % 2 ^ 32 ≡ i = omega arith in z)
whole (Err (RecordingError.TooShort n)) h = ap (λ (x : ℕ). Err (RecordingError.TooShort x)) (let z : n % 2 ^ 32 ≡ n = omega arith in z)

-- an answer and a memory, as they cross
said : (out : List ℕ) (w : Result ℕ RecordingError) (r : ℕ) (x : Wrote) → Small x → r ≡ written_word (cut_written w) → wrote w out ≡ x → ran r out ≡ ran (written_word x.answer) x.memory
said out w r x h e f =
    ap₂ ran (e ∙ ap (λ (y : Wrote). written_word (cut_written y.answer)) f ∙ ap written_word (whole x.answer h)) (ap (λ (y : Wrote). y.memory) f)

pub recorded_ran_lem : (l before out : List ℕ) (w : Result ℕ RecordingError) (r : ℕ) → r ≡ written_word (cut_written w) → wrote w out ≡ recording_written l before → ran r out ≡ record_ran l before
unfolding record_ran
recorded_ran_lem l before out w r e f = said out w r (recording_written l before) (written_small l before) e f

pub read-ran : (l before out : List ℕ) (w : Result ℕ RecordingError) (r : ℕ) → r ≡ written_word (cut_written w) → wrote w out ≡ recording_read l before → ran r out ≡ recorded_ran l before
unfolding recorded_ran
read-ran l before out w r e f = said out w r (recording_read l before) (read_small l before) e f
