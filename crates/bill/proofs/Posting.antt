-- What a posting changes, and what it leaves alone. Assumes nothing.
use Rattle.std.proofs.Common.{Some}
use Rattle.bill.specs.Names.{◌≡◌, Bool, List, [], ◌∷◌, ℕ, Float, binary64, Price, row_of, word_price, Place, Source, Prices, Bill}
use Rattle.bill.proofs.Names.{refl, ap, ◌∙◌, place_posted, word_posted, words_posted, attempt_posted, fresh_bill}
use mathlib.Core.List.{◌++◌}
use lib.Ieee.{add}
use Rattle.prices.proofs.Rows.{first_row}

-- the words of two lists in one are the postings in order
pub words_append : (p : Prices) (b : Bill) (xs ys : List Source) → words_posted p b (xs ++ ys) ≡ words_posted p (words_posted p b xs) ys
words_append p b [] ys = refl
words_append p b (s ∷ xs) ys = words_append p (word_posted p b s) xs ys

-- a word sets its memory's last row under any price, and adds that memory's price
module _ (p : Prices) (b : Bill) (s : Source) (k : ℕ) where
  abbrev with : Place → Bill
  with place = place_posted p b place (row_of s.at)

  pub onchip_row : s.place ≡ Place.OnChip k → (word_posted p b s).onchip.last ≡ Some (row_of s.at)
  unfolding place_posted
  onchip_row e = ap (λ (q : Place). (with q).onchip.last) e

  pub onchip_total : s.place ≡ Place.OnChip k → (word_posted p b s).total ≡ add binary64 b.total (word_price p.onchip b.onchip (row_of s.at))
  unfolding place_posted
  onchip_total e = ap (λ (q : Place). (with q).total) e

  pub external_row : s.place ≡ Place.External k → (word_posted p b s).external.last ≡ Some (row_of s.at)
  unfolding place_posted
  external_row e = ap (λ (q : Place). (with q).external.last) e

  pub external_total : s.place ≡ Place.External k → (word_posted p b s).total ≡ add binary64 b.total (word_price p.external b.external (row_of s.at))
  unfolding place_posted
  external_total e = ap (λ (q : Place). (with q).total) e

  -- it leaves the other memory's side alone
  pub onchip_leaves : s.place ≡ Place.OnChip k → (word_posted p b s).external ≡ b.external
  unfolding place_posted
  onchip_leaves e = ap (λ (q : Place). (with q).external) e

  pub external_leaves : s.place ≡ Place.External k → (word_posted p b s).onchip ≡ b.onchip
  unfolding place_posted
  external_leaves e = ap (λ (q : Place). (with q).onchip) e

-- and the miss figure
place_misses : (p : Prices) (b : Bill) (place : Place) (row : ℕ) → (place_posted p b place row).misses ≡ b.misses
unfolding place_posted
place_misses p b (Place.OnChip k) row = refl
place_misses p b (Place.External k) row = refl
place_misses p b Place.Nowhere row = refl

pub word_misses : (p : Prices) (b : Bill) (s : Source) → (word_posted p b s).misses ≡ b.misses
word_misses p b s = place_misses p b s.place (row_of s.at)

pub words_misses : (p : Prices) (b : Bill) (ss : List Source) → (words_posted p b ss).misses ≡ b.misses
words_misses p b [] = refl
words_misses p b (s ∷ ss) = words_misses p (word_posted p b s) ss ∙ word_misses p b s

-- a word in neither memory posts nothing
pub nowhere_posts : (p : Prices) (b : Bill) (s : Source) → s.place ≡ Place.Nowhere → word_posted p b s ≡ b
unfolding place_posted
nowhere_posts p b s e = ap (λ (q : Place). place_posted p b q (row_of s.at)) e

-- an attempt leaves the total and both sides alone
pub attempt-leaves : (b : Bill) (missed : Bool) → ((attempt_posted b missed).total ≡ b.total) × (((attempt_posted b missed).onchip ≡ b.onchip) × ((attempt_posted b missed).external ≡ b.external))
unfolding attempt_posted
attempt-leaves b missed = (refl, (refl, refl))

-- the first read of either memory is a new row
pub first_onchip : (same fresh : Float) (row : ℕ) → word_price (Price.Row same fresh) fresh_bill.onchip row ≡ fresh
first_onchip = first_row

pub first_external : (same fresh : Float) (row : ℕ) → word_price (Price.Row same fresh) fresh_bill.external row ≡ fresh
first_external = first_row
