-- What an answer says has 32 bits. Assumes nothing.
use Rattle.std.proofs.Common.{Result, Ok, Err}
use Rattle.recording.specs.declared.Flaw.{Flaw}
use Rattle.recording.specs.Names.{◌≡◌, List, ℕ, zero, suc, ◌^◌, ◌≤◌, ◌<◌, length, min, Progress}
use Rattle.recording.specs.Blocks.{most_blocks, most_calls}
use Rattle.recording.specs.Writing.{Wrote, records_in, bad_call, recording_of, written_value}
use Rattle.recording.specs.Reading.{progress, block_at, blocks_in, call_bytes, heard, heard_as, onward}
use Rattle.recording.proofs.Names.{refl, ap, arith, subst, pick_by, ltb-false, block_taken, heard_from, filled_with, recording_written, recording_read}
use Rattle.recording.proofs.Firsts.{accepted_by, first-le}
use Rattle.recording.proofs.Passed.{next_passed, next_carried}
use Rattle.recording.proofs.Runs.{heard_counted}
use Rattle.recording.proofs.Writes.{recording_length, blocks_few}

-- the value beside an answer is below 2^32
abbrev pub Small : Wrote → Type 0
Small w = written_value w.answer < 2 ^ 32

filled_small : (s before : List ℕ) → length s < 2 ^ 32 → Small (filled_with s before)
unfolding filled_with
filled_small s before h = pick_by Small _ _ _ (λ _. h) (λ _. h)

pub written_small : (l before : List ℕ) → Small (recording_written l before)
unfolding recording_written
written_small l before =
    pick_by Small _ _ _
    (λ _. omega (arith, first-le l 0 (min (records_in l) most_calls)))
    (λ e. filled_small (recording_of l) before (omega (arith, recording_length l, blocks_few l (accepted_by l (ltb-false (bad_call l) (records_in l) e)))))

-- a bad block is none past the most and one
abbrev Few : Result Progress ℕ → Type 0
Few (Ok q) = Unit {0}
Few (Err i) = i ≤ most_blocks

few : (r : List ℕ) (p : Progress) (k : ℕ) → p.blocks ≤ most_blocks → Few (heard_from r p k)
unfolding heard_from
few r p zero h = tt
few r p (suc k) h = by_block (λ q. few r q k) (block_taken p (block_at r p.blocks)) refl
  where
    by_block : ((q : Progress) → q.blocks ≤ most_blocks → Few (heard_from r q k)) → (t : Result Progress Flaw) → block_taken p (block_at r p.blocks) ≡ t
        → Few (onward t (λ q. heard_from r q k) p.blocks)
    by_block on (Ok q) e =
        on q
        (omega (arith, (next_passed p (block_at r p.blocks) q e).room, ap (λ (x : Progress). x.blocks) (next_carried p (block_at r p.blocks) q e)))
    by_block on (Err w) e = h

pub read_small : (r before : List ℕ) → Small (recording_read r before)
unfolding recording_read
read_small r before = by_heard (heard r) refl
  where
    by_heard : (h : Result Progress ℕ) → heard r ≡ h → Small (heard_as h (call_bytes r) before)
    by_heard (Ok p) e = filled_small (call_bytes r) before (omega (arith, (heard_counted r p e).calls, (heard_counted r p e).few))
    by_heard (Err i) e = omega (arith, subst Few e (few r (progress 0 0) (blocks_in r) (omega arith)))
