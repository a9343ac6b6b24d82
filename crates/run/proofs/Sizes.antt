-- What a call said has four words. Assumes nothing.
use Rattle.run.specs.Names.{◌≡◌, length, Place, Said}
use Rattle.run.proofs.Names.{refl, said_words}

pub said-length : (s : Said) (f : Place) → length (said_words s f) ≡ 4
said-length (Said.Answered r) f = refl
said-length (Said.Reported s) f = refl
