-- What is written is read back. Assumes nothing.
use Rattle.std.proofs.Common.{Ok}
use Rattle.recording.specs.Names.{◌≡◌, List, true, ℕ, zero, suc, ◌+◌, ◌-◌, ◌*◌, ◌/◌, ◌<◌, ◌≤◌, length, take, drop, min, Bytes, is_good, call_at, call_count, all_good, Progress}
use Rattle.recording.specs.Blocks.{call_room, full_block, most_blocks, count_in}
use Rattle.recording.specs.Writing.{calls_for, block_for, blocks_for, recording_of}
use Rattle.recording.specs.Reading.{progress, block_at, blocks_in, calls_at, call_bytes, heard}
use Rattle.recording.specs.Statements.{RoundTrip}
use Rattle.recording.proofs.Names.{sym, ◌∙◌, ap, ap₂, subst, arith, length-take, length-drop, length-take-le, drop_at, drop-drop, pick_yes, le-leb}
use Rattle.recording.proofs.Names.{calls_of, pieces, filled_with, heard_from}
use Rattle.recording.proofs.Firsts.{CallsAccepted, accepted_by}
use Rattle.recording.proofs.Joins.{join_same}
use Rattle.recording.proofs.Chunks.{cut_whole, join_at}
use Rattle.recording.proofs.Puts.{block-length}
use Rattle.recording.proofs.Turns.{calls-few, calls-whole}
use Rattle.recording.proofs.Fields.{count-is, calls_are, block_passes}
use Rattle.recording.proofs.Passed.{BlockPasses}
use Rattle.recording.proofs.Runs.{Runs, runs_heard}
use Rattle.recording.proofs.Writes.{recording_length, blocks_few, read-good}
use Rattle.calls.specs.Records.{call_of}
use Rattle.calls.proofs.Rest.{each_all_good}
use Rattle.wire.proofs.Reading.{bytes_take, bytes_drop}
use lib.Seq.{take-add, take-take}
use native.Mathlib.Nat.{le_of_eq}

-- a call in a part of a list
pub call_in_part : (l : List ℕ) (o m at : ℕ) → at + 12 ≤ length (take m (drop o l)) → call_at (take m (drop o l)) at ≡ call_at l (o + at)
unfolding call_at
call_in_part l o m at h =
    pick_yes _ _ _ (le-leb _ _ h)
    ∙ ap call_of same
    ∙ sym (pick_yes _ _ _ (le-leb (o + at + 12) (length l) (omega (arith, length-take m (drop o l), length-drop o l))))
  where
    same : take 12 (drop at (take m (drop o l))) ≡ take 12 (drop (o + at) l)
    same =
        ap (λ (k : ℕ). take 12 (drop at (take k (drop o l)))) (let e : m ≡ at + (m - at) = omega (arith, length-take m (drop o l)) in e)
        ∙ ap (λ (x : List ℕ). take 12 (drop at x)) (take-add at (m - at) (drop o l))
        ∙ ap (take 12) (drop_at (take at (drop o l)) (take (m - at) (drop at (drop o l))) at (length-take-le at (drop o l) (omega (arith, length-take m (drop o l)))))
        ∙ take-take 12 (m - at) (drop at (drop o l)) (omega (arith, length-take m (drop o l)))
        ∙ ap (take 12) (drop-drop at o l)

module _ (l : List ℕ) (bytes : Bytes l) (accepted : CallsAccepted l) where
  r : List ℕ
  r = recording_of l

  module _ (i : ℕ) (h : i < blocks_for l) where
    part_long : length (calls_for l i) ≡ min call_room (length l - call_room * i)
    part_long = omega (arith, length-take call_room (drop (call_room * i) l), length-drop (call_room * i) l)

    part_bytes_lem : Bytes (calls_for l i)
    part_bytes_lem = bytes_take call_room (drop (call_room * i) l) (bytes_drop (call_room * i) l bytes)

    number_low : i < most_blocks
    number_low = omega (arith, blocks_few l accepted)

    block-is : block_at r i ≡ block_for l i
    unfolding r
    block-is =
        join_at (block_for l) 512 (blocks_for l) (λ j _. block-length j (calls_for l j) (calls-few l j)) (λ j _. le_of_eq (block-length j (calls_for l j) (calls-few l j))) i h

    calls-good : all_good (calls_for l i) ≡ true
    calls-good =
        each_all_good (calls_for l i) (calls-whole l i accepted.whole)
        (λ j g. ap is_good (call_in_part l (call_room * i) call_room (12 * j) (omega arith) ∙ ap (call_at l) (let e : call_room * i + 12 * j ≡ 12 * (42 * i + j) = omega arith in e))
        ∙ accepted.each (42 * i + j) (omega (arith, part_long)))

    passes : BlockPasses (progress i (full_block * i)) (block_at r i)
    passes =
        subst (BlockPasses (progress i (full_block * i))) (sym block-is)
        (block_passes i (calls_for l i) number_low (calls-few l i) (calls-whole l i accepted.whole) part_bytes_lem (omega (arith, part_long)) calls-good)

    counts : count_in (block_at r i) ≡ length (calls_for l i) / 12
    counts = ap count_in block-is ∙ count-is i (calls_for l i) number_low (calls-few l i) (calls-whole l i accepted.whole) part_bytes_lem

    called : calls_at r i ≡ calls_for l i
    called = ap calls_of block-is ∙ calls_are i (calls_for l i) number_low (calls-few l i) (calls-whole l i accepted.whole) part_bytes_lem

  -- from block i on, behind as many calls as there are before it
  runs : (i k : ℕ) → i + k ≡ blocks_for l → Runs r (progress i (min (full_block * i) (call_count l))) k (progress (blocks_for l) (call_count l))
  runs i zero e =
      subst (λ (q : Progress). Runs r (progress i (min (full_block * i) (call_count l))) 0 q)
      (ap₂ progress (let z : i ≡ blocks_for l = omega arith in z) (let z : min (full_block * i) (call_count l) ≡ call_count l = omega arith in z))
      Runs.done
  runs i (suc k) e =
      let h : i < blocks_for l = omega arith in
      let full : full_block * i ≡ min (full_block * i) (call_count l) = omega (arith, accepted.whole) in
      Runs.more (subst (λ (c : ℕ). BlockPasses (progress i c) (block_at r i)) full (passes i h))
      (subst (λ (q : Progress). Runs r q k (progress (blocks_for l) (call_count l)))
      (ap (progress (i + 1))
      (let z : min (full_block * (i + 1)) (call_count l) ≡ min (full_block * i) (call_count l) + count_in (block_at r i) =
      omega (arith, counts i h, part_long i h, accepted.whole) in z))
      (runs (i + 1) k (omega arith)))

  many : blocks_in r ≡ blocks_for l
  unfolding r
  many = omega (arith, recording_length l)

  all-heard : heard r ≡ Ok (progress (blocks_for l) (call_count l))
  all-heard =
      ap (heard_from r (progress 0 0)) many
      ∙ ap (λ (c : ℕ). heard_from r (progress 0 c) (blocks_for l)) (let z : 0 ≡ min (full_block * 0) (call_count l) = omega arith in z)
      ∙ runs_heard (runs 0 (blocks_for l) (omega arith))

  all-calls : call_bytes r ≡ l
  all-calls =
      ap (pieces (calls_at r) 0) many
      ∙ join_same (calls_at r) (calls_for l) 0 (blocks_for l) (λ j _ b. called j (omega arith))
      ∙ cut_whole l call_room (blocks_for l) (omega arith)

pub round_trip : RoundTrip
unfolding r
round_trip l bytes e =
    let a = accepted_by l (le_of_eq (sym e)) in
    record {
      whole = all-heard l bytes a;
      calls = all-calls l bytes a;
      answered = λ before.
          sym (read-good (recording_of l) before (progress (blocks_for l) (call_count l)) (all-heard l bytes a)) ∙ ap (λ (s : List ℕ). filled_with s before) (all-calls l bytes a);
    }
