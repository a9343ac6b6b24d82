-- What the reader accepts is what the writer would write. Assumes nothing.
use Rattle.std.proofs.Common.{Ok}
use Rattle.recording.specs.Names.{◌≡◌, List, ◌++◌, true, ℕ, zero, suc, ◌+◌, ◌-◌, ◌*◌, ◌/◌, ◌%◌, ◌^◌, ◌<◌, ◌≤◌, length, take, drop, min, replicate}
use Rattle.recording.specs.Names.{Bytes, halves, word_bytes, word_at, is_good, call_at, call_count, crc32, Progress}
use Rattle.recording.specs.Blocks.{call_room, full_block, most_calls, block_front, count_in}
use Rattle.recording.specs.Writing.{records_in, calls_for, block_for, blocks_for, recording_of}
use Rattle.recording.specs.Reading.{progress, block_at, blocks_in, calls_at, call_bytes, heard}
use Rattle.recording.specs.Statements.{Writable, OneRecording}
use Rattle.recording.proofs.Names.{refl, sym, ◌∙◌, ap, ap₂, subst, arith, append_assoc, length-take, length-drop, take-append-drop, take_at, drop-drop, calls_of, unused_of, block_of, pieces}
use Rattle.recording.proofs.Joins.{join_same}
use Rattle.recording.proofs.Chunks.{cut_whole, join_at, join_long}
use Rattle.recording.proofs.Zeros.{zeros_are}
use Rattle.recording.proofs.Puts.{front_length}
use Rattle.recording.proofs.Firsts.{first-all}
use Rattle.recording.proofs.Passed.{BlockPasses}
use Rattle.recording.proofs.Runs.{Runs, runs_of, calls-length, Counted, heard_counted}
use Rattle.recording.proofs.Back.{call_in_part}
use Rattle.calls.proofs.Rest.{all_good_at}
use Rattle.crc.proofs.Registers.{crc32-lt}
use Rattle.wire.specs.Words.{word_of}
use Rattle.wire.proofs.Reading.{bytes_take, bytes_drop, word_bytes_lem, word_back, word_lt, same_bytes_lem}
use lib.Seq.{take_all}

-- a block that passes is the one that its number and its calls make
module _ (p : Progress) (b : List ℕ) (h : BlockPasses p b) (bytes : Bytes b) where
  abbrev calls : List ℕ
  calls = calls_of b

  long : length calls ≡ 12 * count_in b
  long = calls-length p b h

  word_low : word_at b 0 < 2 ^ 32
  word_low = word_lt (take 4 b) (bytes_take 4 b bytes)

  word-is : word_at b 0 ≡ halves (call_count calls) p.blocks
  word-is = omega (arith, long, h.numbered, word_low)

  head_is : take 4 b ≡ word_bytes (halves (call_count calls) p.blocks)
  head_is =
      same_bytes_lem (take 4 b) (word_bytes (halves (call_count calls) p.blocks)) (bytes_take 4 b bytes) (word_bytes_lem (halves (call_count calls) p.blocks))
      (omega (arith, length-take 4 b, h.long)) refl
      (word-is ∙ sym (word_back (halves (call_count calls) p.blocks) (subst (λ (w : ℕ). w < 2 ^ 32) word-is word_low)))

  unused_is : unused_of b ≡ replicate (call_room - length calls) 0
  unfolding unused_of
  unused_is =
      zeros_are (unused_of b) h.zeros
      ∙ ap (λ (n : ℕ). replicate n 0)
      (let e : length (take (call_room - 12 * count_in b) (drop (4 + 12 * count_in b) b)) ≡ call_room - length calls =
      omega (arith, long, h.few, h.long, length-take (call_room - 12 * count_in b) (drop (4 + 12 * count_in b) b), length-drop (4 + 12 * count_in b) b) in e)

  -- its parts, one behind the other
  rest-is : drop (4 + 12 * count_in b) b ≡ unused_of b ++ drop 508 b
  unfolding unused_of
  rest-is =
      sym (take-append-drop (call_room - 12 * count_in b) (drop (4 + 12 * count_in b) b))
      ∙ ap (λ (x : List ℕ). take (call_room - 12 * count_in b) (drop (4 + 12 * count_in b) b) ++ x)
      (drop-drop (call_room - 12 * count_in b) (4 + 12 * count_in b) b ∙ ap (λ (n : ℕ). drop n b) (let e : 4 + 12 * count_in b + (call_room - 12 * count_in b) ≡ 508 = omega (arith, h.few) in e))

  body_is : drop 4 b ≡ calls ++ (unused_of b ++ drop 508 b)
  unfolding calls_of
  body_is =
      sym (take-append-drop (12 * count_in b) (drop 4 b))
      ∙ ap (λ (x : List ℕ). take (12 * count_in b) (drop 4 b) ++ x) (drop-drop (12 * count_in b) 4 b ∙ rest-is)

  parts : b ≡ block_front p.blocks calls ++ drop 508 b
  parts =
      sym (take-append-drop 4 b)
      ∙ ap₂ ◌++◌ head_is (body_is ∙ ap (λ (x : List ℕ). calls ++ (x ++ drop 508 b)) unused_is)
      ∙ sym (append_assoc (word_bytes (halves (call_count calls) p.blocks)) calls (replicate (call_room - length calls) 0 ++ drop 508 b))
      ∙ sym (append_assoc (word_bytes (halves (call_count calls) p.blocks) ++ calls) (replicate (call_room - length calls) 0) (drop 508 b))

  front_is : take 508 b ≡ block_front p.blocks calls
  front_is = ap (take 508) parts ∙ take_at (block_front p.blocks calls) (drop 508 b) 508 (front_length p.blocks calls (omega (arith, long, h.few)))

  check-is : drop 508 b ≡ word_bytes (crc32 (block_front p.blocks calls))
  check-is =
      same_bytes_lem (drop 508 b) (word_bytes (crc32 (block_front p.blocks calls))) (bytes_drop 508 b bytes) (word_bytes_lem (crc32 (block_front p.blocks calls)))
      last refl
      (sym (ap word_of (take_all 4 (drop 508 b) (omega (arith, last))))
      ∙ h.checked
      ∙ ap crc32 front_is
      ∙ sym (word_back (crc32 (block_front p.blocks calls)) (subst (λ (s : List ℕ). crc32 s < 2 ^ 32) front_is (crc32-lt (take 508 b) (bytes_take 508 b bytes)))))
    where
      last : length (drop 508 b) ≡ 4
      last = omega (arith, length-drop 508 b, h.long)

  pub passed_is : b ≡ block_of p.blocks calls
  unfolding block_of
  passed_is = parts ∙ ap (λ (x : List ℕ). block_front p.blocks calls ++ x) check-is

-- each block of those that are all taken passes, and all but the last are full
pub runs_at : {r : List ℕ} {p q : Progress} {k : ℕ} → Runs r p k q → (j : ℕ) → j < k → BlockPasses (progress (p.blocks + j) (full_block * (p.blocks + j))) (block_at r (p.blocks + j))
runs_at Runs.done j g = absurd (omega arith)
runs_at {r} (Runs.more {p = p} h t) zero g =
    subst (λ (m : ℕ). BlockPasses (progress m (full_block * m)) (block_at r m)) (let e : p.blocks ≡ p.blocks + 0 = omega arith in e)
    (subst (λ (c : ℕ). BlockPasses (progress p.blocks c) (block_at r p.blocks)) h.full h)
runs_at {r} (Runs.more {p = p} h t) (suc j) g =
    subst (λ (m : ℕ). BlockPasses (progress m (full_block * m)) (block_at r m)) (let e : p.blocks + 1 + j ≡ p.blocks + suc j = omega arith in e) (runs_at t j (omega arith))

pub runs_full : {r : List ℕ} {p q : Progress} {k : ℕ} → Runs r p k q → (j : ℕ) → j + 1 < k → count_in (block_at r (p.blocks + j)) ≡ full_block
runs_full Runs.done j g = absurd (omega arith)
runs_full (Runs.more h Runs.done) j g = absurd (omega arith)
runs_full {r} (Runs.more {p = p} h (Runs.more h' t)) zero g =
    ap (λ (m : ℕ). count_in (block_at r m)) (let e : p.blocks + 0 ≡ p.blocks = omega arith in e)
    ∙ (let e : count_in (block_at r p.blocks) ≡ full_block = omega (arith, h.full, h'.full) in e)
runs_full {r} (Runs.more {p = p} h (Runs.more h' t)) (suc j) g =
    ap (λ (m : ℕ). count_in (block_at r m)) (let e : p.blocks + suc j ≡ p.blocks + 1 + j = omega arith in e) ∙ runs_full (Runs.more h' t) j (omega arith)

module _ (r : List ℕ) (p : Progress) (bytes : Bytes r) (h : heard r ≡ Ok p) where
  passes : (j : ℕ) → j < blocks_in r → BlockPasses (progress j (full_block * j)) (block_at r j)
  passes j g =
      subst (λ (m : ℕ). BlockPasses (progress m (full_block * m)) (block_at r m)) (let e : 0 + j ≡ j = omega arith in e) (runs_at (runs_of r (progress 0 0) (blocks_in r) p h) j g)

  full : (j : ℕ) → j + 1 < blocks_in r → length (calls_at r j) ≡ call_room
  full j g =
      calls-length (progress j (full_block * j)) (block_at r j) (passes j (omega arith))
      ∙ (let e = runs_full (runs_of r (progress 0 0) (blocks_in r) p h) j g in
      let f : count_in (block_at r j) ≡ full_block = ap (λ (m : ℕ). count_in (block_at r m)) (let z : j ≡ 0 + j = omega arith in z) ∙ e in
      omega (arith, f))

  short : (j : ℕ) → j < blocks_in r → length (calls_at r j) ≤ call_room
  short j g = omega (arith, calls-length (progress j (full_block * j)) (block_at r j) (passes j g), (passes j g).few)

  calls_are : (j : ℕ) → j < blocks_in r → calls_for (call_bytes r) j ≡ calls_at r j
  calls_are j g = join_at (calls_at r) call_room (blocks_in r) full short j g

  -- as many blocks as were read
  many : blocks_for (call_bytes r) ≡ blocks_in r
  unfolding pieces
  many = by_count (blocks_in r) refl
    where
      by_count : (m : ℕ) → blocks_in r ≡ m → blocks_for (call_bytes r) ≡ m
      by_count zero e =
          ap (λ (m : ℕ). (length (pieces (calls_at r) 0 m) + 503) / call_room) e
      by_count (suc m) e =
          omega (
            arith,
            join_long (calls_at r) call_room (blocks_in r) full short m e,
            short m (omega (arith, e)),
            calls-length (progress m (full_block * m)) (block_at r m) (passes m (omega (arith, e))),
            (passes m (omega (arith, e))).some,
          )

  counted : Counted r p
  counted = heard_counted r p h

  -- and each call is as said
  each : (j : ℕ) → j < records_in (call_bytes r) → is_good (call_at (call_bytes r) (12 * j)) ≡ true
  each j g =
      let i = j / 42 in
      let k = j % 42 in
      let low : i < blocks_in r = omega (arith, many, counted.calls) in
      let inside : 12 * k + 12 ≤ length (calls_for (call_bytes r) i) =
      omega (arith, counted.calls, length-take call_room (drop (call_room * i) (call_bytes r)), length-drop (call_room * i) (call_bytes r)) in
      ap is_good
      (ap (call_at (call_bytes r)) (let e : 12 * j ≡ call_room * i + 12 * k = omega arith in e)
      ∙ sym (call_in_part (call_bytes r) (call_room * i) call_room (12 * k) inside)
      ∙ ap (λ (s : List ℕ). call_at s (12 * k)) (calls_are i low))
      ∙ all_good_at (calls_at r i) k (passes i low).good (omega (arith, ap length (calls_are i low), inside))

  recordable : Writable (call_bytes r)
  recordable =
      first-all (call_bytes r) 0 (min (records_in (call_bytes r)) most_calls) (λ j _ b. each j (omega arith))
      ∙ (let e : 0 + min (records_in (call_bytes r)) most_calls ≡ records_in (call_bytes r) = omega (arith, counted.calls, counted.few) in e)

  again : recording_of (call_bytes r) ≡ r
  again =
      ap (pieces (block_for (call_bytes r)) 0) many
      ∙ join_same (block_for (call_bytes r)) (block_at r) 0 (blocks_in r)
      (λ j _ g. ap (block_of j) (calls_are j (omega arith))
      ∙ sym (passed_is (progress j (full_block * j)) (block_at r j) (passes j (omega arith)) (bytes_take 512 (drop (512 * j) r) (bytes_drop (512 * j) r bytes))))
      ∙ cut_whole r 512 (blocks_in r) (omega arith)

pub one_recording : OneRecording
one_recording r p bytes h = (recordable r p bytes h, again r p bytes h)
