-- A turn of the loops that write: one more block, and the calls of one more. Assumes nothing.
use Rattle.recording.specs.Names.{◌≡◌, List, ℕ, ◌+◌, ◌-◌, ◌*◌, ◌%◌, ◌≤◌, ◌<◌, length, drop, pasted}
use Rattle.recording.specs.Blocks.{call_room}
use Rattle.recording.specs.Reading.{blocks_in, call_bytes, calls_at}
use Rattle.recording.specs.Writing.{calls_for, block_for, blocks_for, recording_of}
use Rattle.recording.proofs.Pieces.{Cutting}
use Rattle.recording.proofs.Names.{sym, ◌∙◌, ap, arith, length-take, length-drop, pieces}
use Rattle.recording.proofs.Joins.{length_next, join_length, put_next}
use Rattle.recording.proofs.Puts.{block-length}
use Rattle.wire.specs.Words.{bytes_put}
use Rattle.wire.proofs.Pastes.{bytes_fit}

-- a piece that was put where it has room
module _ (f : ℕ → List ℕ) (n i at : ℕ) (out part : List ℕ) (h : i < n) (fits : at + length (pieces f i (n - i)) ≤ length out) (e : part ≡ f i) where
  pub piece_fits : at + length part + length (pieces f (i + 1) (n - (i + 1))) ≤ length out
  piece_fits = omega (arith, length_next f n i h, ap length e)

  pub piece_turn : (m : List ℕ) → m ≡ bytes_put out at part → pasted out at (pieces f i (n - i)) ≡ pasted m (at + length part) (pieces f (i + 1) (n - (i + 1)))
  piece_turn m g =
      put_next f n i at out m h fits (g ∙ bytes_fit out at part (omega (arith, piece_fits)) ∙ ap (pasted out at) e)
      ∙ ap (λ (x : List ℕ). pasted m (at + length x) (pieces f (i + 1) (n - (i + 1)))) (sym e)

-- the calls of a block: no more than fill it, and whole records
pub calls-few : (l : List ℕ) (i : ℕ) → length (calls_for l i) ≤ call_room
calls-few l i = omega (arith, length-take call_room (drop (call_room * i) l))

pub calls-whole : (l : List ℕ) (i : ℕ) → length l % 12 ≡ 0 → length (calls_for l i) % 12 ≡ 0
calls-whole l i e = omega (arith, length-take call_room (drop (call_room * i) l), length-drop (call_room * i) l)

pub blocks_length : (l : List ℕ) (i k : ℕ) → length (pieces (block_for l) i k) ≡ 512 * k
blocks_length l i k = join_length (block_for l) 512 i k (λ j _ _. block-length j (calls_for l j) (calls-few l j))

-- a block that was put
pub block_turn : (l out m : List ℕ) (n i : ℕ) → i < n → 512 * n ≤ length out → m ≡ pasted out (512 * i) (block_for l i)
    → pasted out (512 * i) (pieces (block_for l) i (n - i)) ≡ pasted m (512 * (i + 1)) (pieces (block_for l) (i + 1) (n - (i + 1)))
block_turn l out m n i h fits e =
    put_next (block_for l) n i (512 * i) out m h (omega (arith, blocks_length l i (n - i))) e
    ∙ ap (λ (x : ℕ). pasted m x (pieces (block_for l) (i + 1) (n - (i + 1))))
    (let z : 512 * i + length (block_for l i) ≡ 512 * (i + 1) = omega (arith, block-length i (calls_for l i) (calls-few l i)) in z)

-- what holds before the calls of each block are put
pub record Filling (r rest : List ℕ) (held : ℕ) (first out : List ℕ) (at i : ℕ) : Type 0 where
  pub cut : Cutting 512 r rest held i
  pub long : length out ≡ length first
  pub fits : at + length (pieces (calls_at r) i (blocks_in r - i)) ≤ length out
  pub same : pasted first 0 (call_bytes r) ≡ pasted out at (pieces (calls_at r) i (blocks_in r - i))

-- what holds before each block is put
pub record Blocking (l rest : List ℕ) (held : ℕ) (first out : List ℕ) (i : ℕ) : Type 0 where
  pub cut : Cutting call_room l rest held i
  pub long : length out ≡ length first
  pub same : pasted first 0 (recording_of l) ≡ pasted out (512 * i) (pieces (block_for l) i (blocks_for l - i))
