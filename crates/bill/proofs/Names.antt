-- What the proofs of this crate are written with.
pub use lib.Dec.{T, lit<, lit≤}
pub use lib.Ieee.{down, emax, fin, inf, low, nan, prec, up}
pub use lib.Ieee.Fits.{add-fits, down_pos, round_is}
pub use lib.Ieee.Scale.{finite}
pub use lib.IntN.{negsuc, pos, ℤ}
pub use mathlib.Core.Bool.{beq as Bool·beq, ◌&&◌, cond}
pub use mathlib.Core.Path.{◌∙◌, ap, refl, subst, sym}
pub use native.Mathlib.Nat.{le-mul_of_pos_right, le_of_eq, le_trans, mul-le-mul_right, mul-one, mul-pos, zero-mul}
pub use native.Mathlib.Omega.{arith}
unfoldable pub use Rattle.bill.specs.Bill.{attempt_posted, place_posted}
pub use Rattle.bill.specs.Bill.{fresh_bill, seen_posted, word_posted, words_posted}
pub use Rattle.bill.specs.Figures.{f⅛}
unfoldable pub use Rattle.bill.specs.Figures.{smoothed}
pub use Rattle.page.specs.Ground.{◌*◌, ◌+◌, ◌-◌, ◌<◌, ◌^◌, ◌≤◌, ltb, not, suc, zero}
pub use Rattle.prices.proofs.Values.{zero_is}
