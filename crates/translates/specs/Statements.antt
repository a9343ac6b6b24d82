-- What the image of an accepted list owes (01, demand 3): the plain walk over it finds what the list says, the same
-- over a page's whole range, and needs no word outside it.
use Rattle.std.specs.Prelude.{Result, Err}
use Rattle.walk.specs.declared.Unfound.{Unfound}
use Rattle.walk.specs.declared.Page.{Page}
use Rattle.std.specs.Prelude.{Ok}
use Rattle.std.specs.Prelude.{Option, Some, None}
use Rattle.std.specs.Prelude.{◌+◌, ◌-◌, ◌<◌, ◌≤◌, ◌≡◌, ◌++◌, ◌⊎◌}
use Rattle.translates.specs.Names.{ℕ, true, List, length, take, drop, megabytes, limit, VirtualAddress}
use Rattle.translates.specs.Names.{Lent, lent_ok, Source, Reads, Uniform, physical_of, Mapping, mappings, byte_of, holder}
use Rattle.translates.specs.Names.{image_length, image, answer_of, build_of, Bytes}
use Rattle.walk.specs.Uniform.{look_in}

-- what is found has the byte and the access of the mapping that holds the address; where none does, no page is found
abbrev pub Gives : Option Mapping → VirtualAddress → Result Page Unfound → Type 0
Gives (Some m) va (Ok p) = (physical_of p va ≡ byte_of m va) × (p.access ≡ m.access)
Gives (Some m) va (Err Unfound.NoPage) = ⊥
Gives (Some m) va (Err Unfound.Missing) = ⊥
Gives None va (Ok p) = ⊥
Gives None va (Err Unfound.NoPage) = Unit
Gives None va (Err Unfound.Missing) = ⊥

-- a word lies in the n bytes at base
abbrev pub SourceInside : ℕ → ℕ → Source → Type 0
SourceInside base n s = (base ≤ s.at.0) × (s.at.0 + 4 ≤ base + n)

-- a walk read one or two words, and they lie in the n bytes at base
abbrev pub ReadsInside : ℕ → ℕ → Reads → Type 0
ReadsInside base n Reads.Nothing = ⊥
ReadsInside base n (Reads.One s) = SourceInside base n s
ReadsInside base n (Reads.Two s t) = SourceInside base n s × SourceInside base n t

-- a memory lent at b has bytes at an address, among others
abbrev pub Has : List ℕ → ℕ → ℕ → List ℕ → Type 0
Has l b at bytes = (b ≤ at) × (take (length bytes) (drop (at - b) l) ≡ bytes)

-- one of the two memories has them
abbrev pub Standing : Lent → ℕ → List ℕ → Type 0
Standing m at bytes = Has m.on m.onbase at bytes ⊎ Has m.ext m.extbase at bytes

-- what two memories owe a list whose image stands at a base in one of them
pub record Translates (m : Lent) (base : ℕ) (ms : List Mapping) : Type 0 where
  pub gives : (va : VirtualAddress) → va.0 < limit → Gives (holder ms va) va (look_in m base va).found
  pub uniform : Uniform limit (look_in m base)
  pub inside : (va : VirtualAddress) → va.0 < limit → ReadsInside base (image_length megabytes ms) (look_in m base va).reads

-- every accepted list, wherever its image stands in memories that are not refused
abbrev pub ImageTranslates : Type 0
ImageTranslates =
    (rs : List ℕ) (base room len : ℕ) (m : Lent) → Bytes rs → answer_of rs base room ≡ Ok len → lent_ok m ≡ true →
    Standing m base (image megabytes (mappings rs) base) → Translates m base (mappings rs)

-- an accepted list's image is what a build leaves, and every later byte as it was
abbrev pub LeavesImage : Type 0
LeavesImage =
    (rs : List ℕ) (base len : ℕ) (before : List ℕ) → answer_of rs base (length before) ≡ Ok len →
    (build_of rs base before).memory ≡ image megabytes (mappings rs) base ++ drop len before
