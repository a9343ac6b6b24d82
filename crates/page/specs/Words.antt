-- The kinds of page, access rights, and the two words of a slot in register layout (01, "The unit", "Registers"):
-- CAM has the tag in 17:4 (address bits 23:10), P in 3, V in 2, the type in 1:0; RAM has the frame in 31:10, access in
-- 9:8.
use Rattle.std.specs.Prelude.{◌+◌, ◌-◌, ◌*◌, ◌/◌, ◌%◌, ◌^◌}
use Rattle.page.specs.Ground.{ℕ, Bool, eqb, leb}
use Rattle.page.specs.Pick.{pick, ◌and◌}
use Rattle.page.specs.Low.{upper, agree, joined}
use Rattle.page.specs.declared.Access.{Access}
use Rattle.page.specs.declared.Kind.{Kind}
use Rattle.page.specs.declared.VirtualAddress.{VirtualAddress}
use Rattle.page.specs.declared.PhysicalAddress.{PhysicalAddress}
use Rattle.page.specs.declared.Words.{Words}

abbrev pub virtual : ℕ → VirtualAddress
virtual n = record { 0 = n }

abbrev pub physical : ℕ → PhysicalAddress
physical n = record { 0 = n }

-- the megabytes of virtual addresses: 24 bits, and a first-level word for each
abbrev pub megabytes : ℕ
megabytes = 16

-- the first address past the virtual ones
abbrev pub limit : ℕ
limit = megabytes * 2 ^ 20

-- how many low bits of an address a page leaves alone
abbrev pub low_bits : Kind → ℕ
low_bits Kind.Section = 20
low_bits Kind.Large = 16
low_bits Kind.Small = 12
low_bits Kind.Tiny = 10

-- the paper's number of a kind: the type bits of a slot
abbrev pub type_of : Kind → ℕ
type_of Kind.Section = 0
type_of Kind.Large = 1
type_of Kind.Small = 2
type_of Kind.Tiny = 3

-- the kind that the two lowest bits of a word say
unfoldable pub kind_of : ℕ → Kind
kind_of w =
    pick (eqb (w % 4) 0) Kind.Section
    (pick (eqb (w % 4) 1) Kind.Large
    (pick (eqb (w % 4) 2) Kind.Small Kind.Tiny))

-- access bits 0x permit nothing, 10 reading, 11 both
abbrev pub permits : ℕ → Access → Bool
permits bits Access.Read = leb 2 bits
permits bits Access.Write = eqb bits 3

-- what the two words say
abbrev pub word_valid : ℕ → Bool
word_valid cam = eqb (cam / 4 % 2) 1

abbrev pub word_preserved : ℕ → Bool
word_preserved cam = eqb (cam / 8 % 2) 1

abbrev pub word_tag : ℕ → ℕ
word_tag cam = cam / 16 * 2 ^ 10

abbrev pub word_access : ℕ → ℕ
word_access ram = ram / 256 % 4

-- a valid slot matches an address that agrees with its tag above the page's low bits
unfoldable pub word_matches : ℕ → VirtualAddress → Bool
word_matches cam va = word_valid cam and agree (low_bits (kind_of cam)) va.0 (word_tag cam)

-- a match's physical address: the slot's upper bits and the request's lower ones
unfoldable pub word_address : ℕ → ℕ → VirtualAddress → PhysicalAddress
word_address cam ram va = physical (joined (low_bits (kind_of cam)) ram va.0)

-- V cleared
unfoldable pub word_dropped : ℕ → ℕ
word_dropped cam = pick (word_valid cam) (cam - 4) cam

-- a global flush drops what is not preserved
unfoldable pub word_flushed : ℕ → ℕ
word_flushed cam = pick (word_preserved cam) cam (word_dropped cam)

-- an entry flush drops what matches
unfoldable pub word_flushed_at : VirtualAddress → ℕ → ℕ
word_flushed_at va cam = pick (word_matches cam va) (word_dropped cam) cam

-- what a walk stores (01, "The walk"): V = 1, P = 0, the page's access, tag and frame with the bits below the page size
-- zero
unfoldable pub made_cam : Kind → ℕ → ℕ
made_cam k va = upper (low_bits k) va / 64 + 4 + type_of k

unfoldable pub made_ram : Kind → ℕ → ℕ → ℕ
made_ram k frame access = upper (low_bits k) frame + 256 * (access % 4)

abbrev pub made_words : Kind → PhysicalAddress → ℕ → VirtualAddress → Words
made_words k frame access va = record { cam = made_cam k va.0; ram = made_ram k frame.0 access }
