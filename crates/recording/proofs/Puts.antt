-- A block put into a memory: its head, its calls, zeros and the check, one behind the other. Assumes nothing.
use Rattle.recording.specs.Names.{◌≡◌, List, [], ◌∷◌, ◌++◌, ℕ, zero, suc, ◌+◌, ◌-◌, ◌*◌, ◌/◌, ◌%◌, ◌≤◌, length, take, drop, replicate, pasted, halves, word_bytes, crc32}
use Rattle.recording.specs.Blocks.{call_room, block_front}
use Rattle.recording.proofs.Names.{refl, sym, ◌∙◌, ap, arith, length-append, length-replicate, block_of}
use Rattle.wire.specs.Words.{bytes_of, words_put, bytes_put}
use Rattle.wire.specs.Spliced.{bytes_by, run_put}
use Rattle.wire.proofs.Placing.{written_fits}
use Rattle.wire.proofs.Splices.{run_fits}
use Rattle.wire.proofs.Pastes.{pasted_length, pasted_at, pasted_followed, words-pasted, spliced-pasted, bytes_fit}
use lib.ListN.{replicate-append-replicate}

-- a word that has room
word_put : (l : List ℕ) (at w : ℕ) → at + 4 ≤ length l → words_put l at (w ∷ []) ≡ pasted l at (word_bytes w)
unfolding bytes_of
word_put l at w h = written_fits l at (w ∷ []) h ∙ words-pasted l at (w ∷ [])

-- words of zero are zeros
zero-bytes : (k : ℕ) → bytes_by (λ (_ : ℕ). 0) k ≡ replicate (4 * k) 0
unfolding bytes_by
zero-bytes zero = refl
zero-bytes (suc k) =
    ap (λ (x : List ℕ). x ++ replicate 4 0) (zero-bytes k)
    ∙ replicate-append-replicate (4 * k) 4 0
    ∙ ap (λ (n : ℕ). replicate n 0) (let e : 4 * k + 4 ≡ 4 * suc k = omega arith in e)

zeros_put : (l : List ℕ) (at n k : ℕ) → n ≡ 4 * k → at + n ≤ length l → run_put l at k 0 ≡ pasted l at (replicate n 0)
zeros_put l at n k e h =
    run_fits l at k 0 (omega arith)
    ∙ spliced-pasted l at (λ (_ : ℕ). 0) k
    ∙ ap (pasted l at) (zero-bytes k ∙ ap (λ (m : ℕ). replicate m 0) (sym e))

pub zeros_length : (n : ℕ) → length {A = ℕ} (replicate n 0) ≡ n
zeros_length n = length-replicate n 0

pub front_length : (n : ℕ) (calls : List ℕ) → length calls ≤ call_room → length (block_front n calls) ≡ 508
front_length n calls h =
    length-append (word_bytes (halves (length calls / 12) n) ++ calls) (replicate (call_room - length calls) 0)
    ∙ (let a = length-append (word_bytes (halves (length calls / 12) n)) calls in let b = zeros_length (call_room - length calls) in omega arith)

pub block-length : (n : ℕ) (calls : List ℕ) → length calls ≤ call_room → length (block_of n calls) ≡ 512
unfolding block_of
block-length n calls h = length-append (block_front n calls) (word_bytes (crc32 (block_front n calls))) ∙ (let a = front_length n calls h in omega arith)

pub block_put : (l calls a b d e : List ℕ) (at n w k : ℕ) → at + 512 ≤ length l → length calls ≤ call_room → length calls % 12 ≡ 0
    → w ≡ halves (length calls / 12) n → a ≡ words_put l at (w ∷ []) → b ≡ bytes_put a (at + 4) calls
    → d ≡ run_put b (at + 4 + length calls) ((call_room - length calls) / 4) 0 → k ≡ crc32 (take (at + 508 - at) (drop at d)) → e ≡ words_put d (at + 508) (k ∷ [])
    → e ≡ pasted l at (block_of n calls)
unfolding block_of
block_put l calls a b d e at n w k fits few whole pw pa pb pd pk pe =
    pasted_followed l d e at (at + 508) front (word_bytes (crc32 front)) (omega (arith, fl)) (omega (arith, fl)) d_is
    (pe ∙ word_put d (at + 508) k (omega (arith, d_long)) ∙ ap (λ (x : ℕ). pasted d (at + 508) (word_bytes x)) check)
  where
    head : List ℕ
    head = word_bytes (halves (length calls / 12) n)

    front : List ℕ
    front = (head ++ calls) ++ replicate (call_room - length calls) 0

    fl : length front ≡ 508
    fl = front_length n calls few

    a_is : a ≡ pasted l at head
    a_is = pa ∙ word_put l at w (omega arith) ∙ ap (λ (x : ℕ). pasted l at (word_bytes x)) pw

    a_long : length a ≡ length l
    a_long = ap length a_is ∙ pasted_length l at head (omega arith)

    b-is : b ≡ pasted l at (head ++ calls)
    b-is = pasted_followed l a b at (at + 4) head calls (omega arith) (omega arith) a_is (pb ∙ bytes_fit a (at + 4) calls (omega (arith, a_long)))

    b-long : length b ≡ length l
    b-long = ap length b-is ∙ pasted_length l at (head ++ calls) (omega (arith, length-append head calls))

    d_is : d ≡ pasted l at front
    d_is =
        pasted_followed l b d at (at + 4 + length calls) (head ++ calls) (replicate (call_room - length calls) 0) (omega (arith, length-append head calls))
        (omega (arith, length-append head calls)) b-is
        (pd ∙ zeros_put b (at + 4 + length calls) (call_room - length calls) ((call_room - length calls) / 4) (omega arith) (omega (arith, b-long)))

    d_long : length d ≡ length l
    d_long = ap length d_is ∙ pasted_length l at front (omega (arith, fl))

    check : k ≡ crc32 front
    check =
        pk
        ∙ ap (λ (x : List ℕ). crc32 (take (at + 508 - at) (drop at x))) d_is
        ∙ ap (λ (x : ℕ). crc32 (take x (drop at (pasted l at front)))) (let z : at + 508 - at ≡ length front = omega (arith, fl) in z)
        ∙ ap crc32 (pasted_at l at front (omega (arith, fl)))
