-- What the laws of this crate say (02, P4): which images are accepted, and that the plain walk finds what the listed pages say.
use Rattle.records.specs.declared.Mapping.{Mapping}
use Rattle.std.specs.Prelude.{Result, Err}
use Rattle.walk.specs.declared.Unfound.{Unfound}
use Rattle.walk.specs.declared.Page.{Page}
use Rattle.std.specs.Prelude.{Ok}
use Rattle.std.specs.Prelude.{Option, Some, None}
use Rattle.std.specs.Prelude.{◌+◌, ◌*◌, ◌<◌, ◌≤◌, ◌≡◌}
use Rattle.audit.specs.Names.{ℕ, true, List, length, limit, megabytes, word_at, First, Table, first_of, index_limit}
use Rattle.audit.specs.Names.{VirtualAddress, Lent, lent_ok, lent_alone, LentAt, holder, AllRepeated, Uniform, look_in, read_in}
use Rattle.audit.specs.Pages.{pages_in}
use Rattle.audit.specs.Check.{image_ok, check_of}

-- the table that a first-level word names, if it names one, lies wholly in the n bytes at base
abbrev pub NamedInside : ℕ → ℕ → First → Type 0
NamedInside base n First.Fault = Unit
NamedInside base n (First.Whole p) = Unit
NamedInside base n (First.Coarse at) = (base ≤ at.0) × (at.0 + 4 * index_limit Table.Coarse ≤ base + n)
NamedInside base n (First.Fine at) = (base ≤ at.0) × (at.0 + 4 * index_limit Table.Fine ≤ base + n)

-- the first level of n words and every table that it points at lie inside, and each page's word stands equal over its whole aligned group
pub record Consistent (n : ℕ) (l : List ℕ) (base : ℕ) : Type 0 where
  pub memory : image_ok base (length l) ≡ true
  pub first : 4 * n ≤ length l
  pub tables : (i : ℕ) → i < n → NamedInside base (length l) (first_of (word_at l (4 * i)))
  pub groups : AllRepeated (read_in (lent_alone l base)) first_of n base

-- an image is accepted, with the number of its pages, if and only if that holds
abbrev pub AcceptedExactly : Type 0
AcceptedExactly =
    (n : ℕ) (l : List ℕ) (base : ℕ)
    → ((k : ℕ) → check_of n l base ≡ Ok k → Consistent n l base)
    × (Consistent n l base → check_of n l base ≡ Ok (length (pages_in n l base)))

-- the page of the mapping that holds an address, kind, frame and access; none where none does
abbrev pub found_by : Option Mapping → Result Page Unfound
found_by (Some m) = Ok (record { kind = m.kind; frame = m.to; access = m.access })
found_by None = Err Unfound.NoPage

-- two memories, one of which holds an image: the plain walk finds what the listed pages say, the same over a page's whole range
pub record ReadAs (m : Lent) (l : List ℕ) (base : ℕ) : Type 0 where
  pub finds : (va : VirtualAddress) → va.0 < limit → (look_in m base va).found ≡ found_by (holder (pages_in megabytes l base) va)
  pub uniform : Uniform limit (look_in m base)

-- so it is with every accepted image, lent at its base beside any other memory
abbrev pub PagesMean : Type 0
PagesMean = (l : List ℕ) (base k : ℕ) (m : Lent) → check_of megabytes l base ≡ Ok k → lent_ok m ≡ true → LentAt l base m → ReadAs m l base
