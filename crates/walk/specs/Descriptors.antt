-- What the words of the tables say (01, "The walk"), and the distance (01, "Meters and the walk bill").
use Rattle.std.specs.Prelude.{Result, Ok, Err, ◌+◌, ◌/◌, ◌%◌, ◌^◌, ◌<◌, ◌-ℤ◌}
use Rattle.walk.specs.declared.Unfound.{Unfound}
use Rattle.walk.specs.Names.{ℕ, eqb, pick, upper, joined, physical, low_bits, Kind, VirtualAddress, PhysicalAddress, Page, First, Table, ℤ, pos}

-- a section's word: base in bits 31:20, access in 11:10
abbrev pub section_of : ℕ → Page
section_of w = record { kind = Kind.Section; frame = physical (upper 20 w); access = w / 2 ^ 10 % 4 }

-- a first-level word, by bits 1:0: fault, coarse table at bits 31:10, section, fine table at bits 31:12
unfoldable pub first_of : ℕ → First
first_of w =
    pick (eqb (w % 4) 0) First.Fault
    (pick (eqb (w % 4) 1) (First.Coarse (physical (upper 10 w)))
    (pick (eqb (w % 4) 2) (First.Whole (section_of w)) (First.Fine (physical (upper 12 w)))))

-- a second-level word of a kind: base in bits 31:16, 31:12 or 31:10, access in 5:4
abbrev pub page_of : Kind → ℕ → Page
page_of k w = record { kind = k; frame = physical (upper (low_bits k) w); access = w / 2 ^ 4 % 4 }

-- a tiny word: a page in a fine table, none in a coarse one
abbrev pub tiny_in : Table → ℕ → Result Page Unfound
tiny_in Table.Coarse w = Err Unfound.NoPage
tiny_in Table.Fine w = Ok (page_of Kind.Tiny w)

-- a second-level word, by bits 1:0: fault, large page, small page, tiny page (02, P3: in a fine table too)
unfoldable pub second_of : Table → ℕ → Result Page Unfound
second_of t w =
    pick (eqb (w % 4) 0) (Err Unfound.NoPage)
    (pick (eqb (w % 4) 1) (Ok (page_of Kind.Large w))
    (pick (eqb (w % 4) 2) (Ok (page_of Kind.Small w)) (tiny_in t w)))

-- a page's upper bits and an address's lower ones
abbrev pub physical_of : Page → VirtualAddress → PhysicalAddress
physical_of p va = physical (joined (low_bits p.kind) p.frame.0 va.0)

-- physical minus virtual
abbrev pub distance_of : PhysicalAddress → VirtualAddress → ℤ
distance_of p v = pos p.0 -ℤ pos v.0

-- the paper's number for what a walk finds
abbrev pub found_number : Result Page Unfound → ℕ
found_number (Ok p) = 0
found_number (Err Unfound.NoPage) = 21
found_number (Err Unfound.Missing) = 3

-- a table that a first-level word names ends below 2^32
abbrev pub Room : First → Type 0
Room First.Fault = Unit
Room (First.Whole p) = Unit
Room (First.Coarse t) = t.0 + 1023 < 2 ^ 32
Room (First.Fine t) = t.0 + 4095 < 2 ^ 32
