-- A distance below zero. Assumes nothing.
use Rattle.walk.specs.Names.{◌≡◌, upper, joined, Kind}
use Rattle.walk.proofs.Names.{refl, page_of, physical_of}
use lib.IntN.{negsuc}
use Rattle.page.specs.Words.{virtual}
use Rattle.walk.specs.Descriptors.{distance_of}

-- the paper's example: the tiny page FFFC00 mapped to 0 lies at −16,776,192
pub below-zero : distance_of (physical_of (page_of Kind.Tiny 0x33) (virtual 0xFFFC00)) (virtual 0xFFFC00) ≡ negsuc 16776191
unfolding joined upper
below-zero = refl
