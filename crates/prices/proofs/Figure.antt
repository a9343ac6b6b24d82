-- A word's price is one of its price's figures, so what every figure passes, it passes. Assumes nothing.
use Rattle.std.proofs.Common.{Option, Some, None}
use Rattle.prices.specs.Names.{◌≡◌, Bool, ℕ, eqb, Float, Price, Side}
use Rattle.prices.proofs.Names.{true, and_left, and_right, every, row_price, word_price}
use Rattle.page.proofs.Picks.{pick_by}

row_figure : (test : Float → Bool) (same fresh : Float) (last : Option ℕ) (row : ℕ) → test same ≡ true → test fresh ≡ true → test (row_price same fresh last row) ≡ true
unfolding row_price
row_figure test same fresh None row h k = k
row_figure test same fresh (Some last) row h k = pick_by (λ x. test x ≡ true) (eqb last row) same fresh (λ _. h) (λ _. k)

pub charged_figure : (test : Float → Bool) (p : Price) (side : Side) (row : ℕ) → every test p ≡ true → test (word_price p side row) ≡ true
unfolding every word_price
charged_figure test (Price.Flat x) side row h = h
charged_figure test (Price.Row same fresh) side row h = row_figure test same fresh side.last row (and_left _ _ h) (and_right _ _ h)
