-- What the laws of the descriptors speak of (01, "The walk").
use Rattle.std.specs.Prelude.{Result, Ok, Err, ◌<◌, ◌≡◌}
use Rattle.walk.specs.declared.Unfound.{Unfound}
use Rattle.walk.specs.Names.{Bool, true, false, upper, low_bits, Page, First}

-- a page starts at its frame and has two bits of access
abbrev pub ProperPage : Page → Type 0
ProperPage p = (p.access < 4) × (upper (low_bits p.kind) p.frame.0 ≡ p.frame.0)

-- the page of a section's word does
abbrev pub ProperFirst : First → Type 0
ProperFirst First.Fault = Unit
ProperFirst (First.Whole p) = ProperPage p
ProperFirst (First.Coarse t) = Unit
ProperFirst (First.Fine t) = Unit

-- a page that was found does
abbrev pub Proper : Result Page Unfound → Type 0
Proper (Ok p) = ProperPage p
Proper (Err Unfound.NoPage) = Unit
Proper (Err Unfound.Missing) = Unit

-- a word is missing
abbrev pub is_missing : Result Page Unfound → Bool
is_missing (Ok p) = false
is_missing (Err Unfound.NoPage) = false
is_missing (Err Unfound.Missing) = true
