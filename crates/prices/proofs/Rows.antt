-- What a row price charges: the first read of a memory is a new row; then the row last read is the same row, and any
-- other is new. Assumes nothing.
use Rattle.prices.specs.Names.{◌≡◌, ℕ, Float, Price, Side}
use Rattle.prices.proofs.Names.{refl, eq-eqb, ne_eqb, pick_yes, pick_no, row_price, word_price}
use Rattle.prices.specs.Prices.{side_read, fresh_side}

module _ (same fresh : Float) where
  pub first_row : (row : ℕ) → word_price (Price.Row same fresh) fresh_side row ≡ fresh
  unfolding word_price row_price
  first_row row = refl

  pub same_row : (side : Side) (row : ℕ) → word_price (Price.Row same fresh) (side_read side row) row ≡ same
  unfolding word_price row_price
  same_row side row = pick_yes _ _ _ (eq-eqb row row refl)

  pub other_row : (side : Side) (last row : ℕ) → (last ≡ row → ⊥) → word_price (Price.Row same fresh) (side_read side last) row ≡ fresh
  unfolding word_price row_price
  other_row side last row n = pick_no _ _ _ (ne_eqb last row n)
