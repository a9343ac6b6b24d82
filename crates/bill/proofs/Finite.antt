-- What the float's own test for finite values says. Assumes nothing.
use Rattle.bill.specs.Names.{◌≡◌, Float}
use Rattle.bill.proofs.Names.{refl, nan, inf, fin, finite}
use Rattle.page.proofs.Picks.{tests}
use Rattle.std.specs.Float.{float_is_finite}

pub finite_is : (x : Float) → float_is_finite x ≡ finite x
unfolding float_is_finite
finite_is nan = refl
finite_is (inf s) = refl
finite_is (fin s m e) = refl

pub ruleset figures = (tests, finite_is)
