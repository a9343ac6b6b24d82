-- All blocks, one after another. Assumes nothing.
use Rattle.std.proofs.Common.{Result, Ok, Err}
use Rattle.recording.specs.Names.{◌≡◌, List, ℕ, suc, ◌+◌, ◌-◌, ◌<◌, ◌≤◌, Progress, Flaw}
use Rattle.recording.specs.Reading.{block_at, blocks_in, heard, onward}
use Rattle.recording.proofs.Pieces.{Cutting}
use Rattle.recording.proofs.Names.{sym, ◌∙◌, ap, arith, heard_from, block_taken}

module _ (r : List ℕ) (p : Progress) (n i : ℕ) (e : p.blocks ≡ i) where
  -- one more block
  heard-one : (t : Result Progress Flaw) → i < n → t ≡ block_taken p (block_at r i) → heard_from r p (n - i) ≡ onward t (λ q. heard_from r q (n - (i + 1))) i
  unfolding heard_from
  heard-one t h g =
      ap (heard_from r p) (let z : n - i ≡ suc (n - (i + 1)) = omega arith in z)
      ∙ ap (λ (j : ℕ). onward (block_taken p (block_at r j)) (λ q. heard_from r q (n - (i + 1))) j) e
      ∙ ap (λ (u : Result Progress Flaw). onward u (λ q. heard_from r q (n - (i + 1))) i) (sym g)

  pub heard_next : (t : Result Progress Flaw) (q : Progress) → i < n → t ≡ block_taken p (block_at r i) → t ≡ Ok q → heard_from r p (n - i) ≡ heard_from r q (n - (i + 1))
  heard_next t q h g f = heard-one (Ok q) h (sym f ∙ g)

  pub heard-bad : (t : Result Progress Flaw) (w : Flaw) → i < n → t ≡ block_taken p (block_at r i) → t ≡ Err w → heard_from r p (n - i) ≡ Err i
  heard-bad t w h g f = heard-one (Err w) h (sym f ∙ g)

-- none
pub heard-none : (r : List ℕ) (p : Progress) (n i : ℕ) → n ≤ i → heard_from r p (n - i) ≡ Ok p
unfolding heard_from
heard-none r p n i h = ap (heard_from r p) (let z : n - i ≡ 0 = omega arith in z)

-- what holds before each block
pub record Hearing (r rest : List ℕ) (held : ℕ) (p : Progress) : Type 0 where
  pub cut : Cutting 512 r rest held p.blocks
  pub same : heard r ≡ heard_from r p (blocks_in r - p.blocks)
