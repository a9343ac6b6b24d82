-- What a block that was written says, field by field. Assumes nothing.
use Rattle.recording.specs.Names.{◌≡◌, List, [], ◌++◌, true, ℕ, ◌+◌, ◌-◌, ◌*◌, ◌/◌, ◌%◌, ◌^◌, ◌<◌, ◌≤◌, length, take, drop, replicate}
use Rattle.recording.specs.Names.{Bytes, halves, word_bytes, word_at, call_count, crc32, all_good}
use Rattle.recording.specs.Blocks.{call_room, most_blocks, full_block, block_front, count_in, number_in, check_in}
use Rattle.recording.specs.Reading.{progress}
use Rattle.recording.proofs.Names.{refl, sym, ◌∙◌, ap, ap₂, arith, append_assoc, take_at, drop_at, drop-drop, block_of, calls_of, unused_of, all_zero}
use Rattle.recording.proofs.Puts.{zeros_length, front_length, block-length}
use Rattle.recording.proofs.Passed.{BlockPasses}
use Rattle.recording.proofs.Zeros.{zeros_pass}
use Rattle.wire.specs.Words.{word_of}
use Rattle.wire.proofs.Reading.{bytes-append, word_bytes_lem, word_back, zero-bytes}
use Rattle.crc.proofs.Registers.{crc32-lt}

-- the word at an offset behind so many bytes
word-behind : (a s : List ℕ) (at w : ℕ) → length a ≡ at → w < 2 ^ 32 → word_at (a ++ (word_bytes w ++ s)) at ≡ w
word-behind a s at w e h =
    ap (λ (x : List ℕ). word_of (take 4 x)) (drop_at a (word_bytes w ++ s) at e)
    ∙ ap word_of (take_at (word_bytes w) s 4 refl)
    ∙ word_back w h

module _ (n : ℕ) (calls : List ℕ) (numbered : n < most_blocks) (few : length calls ≤ call_room) (whole : length calls % 12 ≡ 0) (bytes : Bytes calls) where
  abbrev head : List ℕ
  head = word_bytes (halves (call_count calls) n)

  abbrev zeros : List ℕ
  zeros = replicate (call_room - length calls) 0

  abbrev check : List ℕ
  check = word_bytes (crc32 (block_front n calls))

  -- its parts, nested to the right
  parts : block_of n calls ≡ head ++ (calls ++ (zeros ++ check))
  unfolding block_of
  parts = append_assoc (head ++ calls) zeros check ∙ append_assoc head calls (zeros ++ check)

  word-is : word_at (block_of n calls) 0 ≡ halves (call_count calls) n
  word-is = ap (λ (x : List ℕ). word_at x 0) parts ∙ word-behind [] (calls ++ (zeros ++ check)) 0 (halves (call_count calls) n) refl (omega arith)

  pub count-is : count_in (block_of n calls) ≡ length calls / 12
  count-is = omega (arith, word-is)

  pub number_is : number_in (block_of n calls) ≡ n
  number_is = omega (arith, word-is)

  pub front_is : take 508 (block_of n calls) ≡ block_front n calls
  unfolding block_of
  front_is = take_at (block_front n calls) check 508 (front_length n calls few)

  pub front_bytes : Bytes (block_front n calls)
  front_bytes =
      bytes-append (head ++ calls) zeros (bytes-append head calls (word_bytes_lem (halves (call_count calls) n)) bytes) (zero-bytes (call_room - length calls))

  pub check-is : check_in (block_of n calls) ≡ crc32 (take 508 (block_of n calls))
  unfolding block_of
  check-is =
      word-behind (block_front n calls) [] 508 (crc32 (block_front n calls)) (front_length n calls few) (crc32-lt (block_front n calls) front_bytes)
      ∙ ap crc32 (sym front_is)

  pub calls_are : calls_of (block_of n calls) ≡ calls
  unfolding calls_of
  calls_are =
      ap₂ (λ (k : ℕ) (x : List ℕ). take k (drop 4 x)) (let e : 12 * count_in (block_of n calls) ≡ length calls = omega (arith, count-is) in e) parts
      ∙ ap (take (length calls)) (drop_at head (calls ++ (zeros ++ check)) 4 refl)
      ∙ take_at calls (zeros ++ check) (length calls) refl

  pub unused_are : unused_of (block_of n calls) ≡ zeros
  unfolding unused_of
  unused_are =
      ap₂ (λ (k : ℕ) (x : List ℕ). take (call_room - k) (drop (4 + k) x)) (let e : 12 * count_in (block_of n calls) ≡ length calls = omega (arith, count-is) in e) parts
      ∙ ap (take (call_room - length calls))
      (sym (drop-drop (length calls) 4 (head ++ (calls ++ (zeros ++ check))))
      ∙ ap (drop (length calls)) (drop_at head (calls ++ (zeros ++ check)) 4 refl)
      ∙ drop_at calls (zeros ++ check) (length calls) refl)
      ∙ take_at zeros check (call_room - length calls) (zeros_length (call_room - length calls))

  -- so it passes, behind full blocks
  pub block_passes : 0 < length calls → all_good calls ≡ true → BlockPasses (progress n (full_block * n)) (block_of n calls)
  block_passes some good =
      record {
        room = numbered;
        long = block-length n calls few;
        full = refl;
        checked = check-is;
        numbered = number_is;
        some = λ e. omega (arith, count-is, e);
        few = omega (arith, count-is);
        good = ap all_good calls_are ∙ good;
        zeros = ap all_zero unused_are ∙ zeros_pass (call_room - length calls);
      }
