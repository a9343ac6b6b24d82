-- A recording heard piece by piece is heard as a whole: what is carried is all that is needed of the blocks before. Assumes nothing.
use Rattle.std.proofs.Common.{Result, Ok, Err}
use Rattle.recording.specs.declared.Flaw.{Flaw}
use Rattle.recording.specs.Names.{◌≡◌, List, ◌++◌, ℕ, zero, suc, ◌+◌, ◌*◌, ◌≤◌, length, take, drop, Progress}
use Rattle.recording.specs.Reading.{progress, block_at, blocks_in, onward}
use Rattle.recording.specs.Statements.{BlockByBlock, heard_on}
use Rattle.recording.proofs.Names.{refl, ◌∙◌, ap, arith, length-append, length-drop, drop_at, heard_from, block_taken}
use Rattle.recording.proofs.Passed.{next_carried}
use lib.Seq.{drop-append-le, take_all, take-append-le}

-- what comes of a block, where it is the same behind each that is taken
onward_same : (t : Result Progress Flaw) (f g : Progress → Result Progress ℕ) (i : ℕ) (s : List ℕ) → ((q : Progress) → t ≡ Ok q → f q ≡ heard_on (g q) s) → onward t f i ≡ heard_on (onward t g i) s
onward_same (Ok q) f g i s h = h q refl
onward_same (Err w) f g i s h = refl

module _ (r s : List ℕ) (short : length s ≤ 512) where
  -- the piece behind whole blocks is the block behind them, and the blocks before it are as they were
  block-behind : (i : ℕ) → length r ≡ 512 * i → block_at (r ++ s) i ≡ s
  block-behind i e = ap (take 512) (drop_at r s (512 * i) e) ∙ take_all 512 s short

  block-before : (i : ℕ) → 512 * i + 512 ≤ length r → block_at (r ++ s) i ≡ block_at r i
  block-before i h =
      ap (take 512) (drop-append-le (512 * i) r s (omega arith)) ∙ take-append-le 512 (drop (512 * i) r) s (omega (arith, length-drop (512 * i) r))

  -- the blocks that are left, and one more piece
  heard-more : (k : ℕ) (p : Progress) → length r ≡ 512 * (p.blocks + k) → heard_from (r ++ s) p (suc k) ≡ heard_on (heard_from r p k) s
  unfolding heard_from
  heard-more zero p e = ap (λ (b : List ℕ). onward (block_taken p b) Ok p.blocks) (block-behind p.blocks (omega arith))
  heard-more (suc k) p e =
      ap (λ (b : List ℕ). onward (block_taken p b) (λ q. heard_from (r ++ s) q (suc k)) p.blocks) (block-before p.blocks (omega arith))
      ∙ onward_same (block_taken p (block_at r p.blocks)) (λ q. heard_from (r ++ s) q (suc k)) (λ q. heard_from r q k) p.blocks s
      (λ q t. heard-more k q (omega (arith, ap (λ (x : Progress). x.blocks) (next_carried p (block_at r p.blocks) q t))))

-- what is heard block by block
pub block_by_block : BlockByBlock
unfolding heard_from
block_by_block =
    record {
      none = refl;
      one_more = λ r s whole some short.
          ap (heard_from (r ++ s) (progress 0 0)) (let z : blocks_in (r ++ s) ≡ suc (blocks_in r) = omega (arith, length-append r s) in z)
          ∙ heard-more r s short (blocks_in r) (progress 0 0) (omega arith);
    }
