-- The bits of the NaN. Assumes nothing.
use Rattle.state.specs.Names.{◌≡◌, Float, binary64}
use Rattle.state.proofs.Names.{refl}
use mathlib.Core.Bool.{true, false≢true}
use lib.Ieee.{nan, inf, fin, is_nan, to_bits}

pub nan_bits : (x : Float) → is_nan x ≡ true → to_bits binary64 x ≡ 9221120237041090560
unfolding is_nan to_bits
nan_bits nan h = refl
nan_bits (inf s) h = absurd (false≢true h)
nan_bits (fin s m e) h = absurd (false≢true h)
