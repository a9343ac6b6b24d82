-- What a line says: nothing, a mapping, or the first thing that is wrong, its words from left to right.
use Rattle.listing.specs.declared.AddressError.{AddressError}
use Rattle.std.specs.Prelude.{Option, Some, None}
use Rattle.std.specs.Prelude.{Result, Ok, Err}
use Rattle.listing.specs.declared.NumberError.{NumberError}
use Rattle.std.specs.Prelude.{◌-◌}
use Rattle.listing.specs.Names.{ℕ, List, eqb, ltb, leb, length, get_or, take, pick, virtual, physical, limit, Kind, Mapping, multiple, Class}
use Rattle.listing.specs.Names.{Wrong}
use Rattle.listing.specs.Numbers.{end, hex_number}
use Rattle.listing.specs.Words.{run_length, word, rest, kind_named, access_named}

-- the most bytes of a line without its end
abbrev pub line_longest : ℕ
line_longest = 200

-- what is wrong with an address that is no number of 32 bits
abbrev pub no_number : NumberError → AddressError
no_number NumberError.TooLarge = AddressError.TooLarge
no_number NumberError.NotHex = AddressError.NotHex

-- a number where an address of a kind of page is to stand, below an end
abbrev pub address_by : ℕ → Kind → Result ℕ NumberError → Result ℕ AddressError
address_by top k (Ok x) = pick (leb top x) (Err AddressError.TooLarge) (pick (multiple k x) (Ok x) (Err AddressError.Uneven))
address_by top k (Err e) = Err (no_number e)

unfoldable pub address_in : ℕ → Kind → List ℕ → Result ℕ AddressError
address_in end k w = pick (eqb (length w) 0) (Err AddressError.Missing) (address_by end k (hex_number w))

-- a mapping of its four words
abbrev pub mapping : Kind → ℕ → ℕ → ℕ → Mapping
mapping k v p a = record { at = virtual v; to = physical p; kind = k; access = a }

-- a line behind its access
unfoldable pub line_ended : Mapping → List ℕ → Result (Option Mapping) Wrong
line_ended m l = pick (eqb (run_length Class.Blank l) (length l)) (Ok (Some m)) (Err Wrong.WordTooMany)

-- a line from its access on
abbrev pub after_access : Kind → ℕ → ℕ → Option ℕ → List ℕ → Result (Option Mapping) Wrong
after_access k v p (Some a) l = line_ended (mapping k v p a) l
after_access k v p None l = Err Wrong.UnknownAccess

unfoldable pub from_access : Kind → ℕ → ℕ → List ℕ → Result (Option Mapping) Wrong
from_access k v p l =
    pick (eqb (length (word l)) 0) (Err Wrong.WordMissing)
    (after_access k v p (access_named (word l)) (rest l))

-- a line from its physical address on
abbrev pub after_physical : Kind → ℕ → Result ℕ AddressError → List ℕ → Result (Option Mapping) Wrong
after_physical k v (Ok p) l = from_access k v p l
after_physical k v (Err AddressError.Missing) l = Err Wrong.WordMissing
after_physical k v (Err AddressError.NotHex) l = Err Wrong.PhysicalNotHex
after_physical k v (Err AddressError.TooLarge) l = Err Wrong.PhysicalTooLarge
after_physical k v (Err AddressError.Uneven) l = Err Wrong.PhysicalUneven

unfoldable pub from_physical : Kind → ℕ → List ℕ → Result (Option Mapping) Wrong
from_physical k v l = after_physical k v (address_in end k (word l)) (rest l)

-- a line from its virtual address on
abbrev pub after_virtual : Kind → Result ℕ AddressError → List ℕ → Result (Option Mapping) Wrong
after_virtual k (Ok v) l = from_physical k v l
after_virtual k (Err AddressError.Missing) l = Err Wrong.WordMissing
after_virtual k (Err AddressError.NotHex) l = Err Wrong.VirtualNotHex
after_virtual k (Err AddressError.TooLarge) l = Err Wrong.VirtualTooLarge
after_virtual k (Err AddressError.Uneven) l = Err Wrong.VirtualUneven

unfoldable pub from_virtual : Kind → List ℕ → Result (Option Mapping) Wrong
from_virtual k l = after_virtual k (address_in limit k (word l)) (rest l)

-- a line from its kind on
abbrev pub after_kind : Option Kind → List ℕ → Result (Option Mapping) Wrong
after_kind (Some k) l = from_virtual k l
after_kind None l = Err Wrong.UnknownKind

-- a line without its end and its comment
unfoldable pub from_kind : List ℕ → Result (Option Mapping) Wrong
from_kind l = pick (eqb (run_length Class.Blank l) (length l)) (Ok None) (after_kind (kind_named (word l)) (rest l))

-- the bytes of a line without a carriage return at its end
unfoldable pub body_length : List ℕ → ℕ
body_length l = pick (eqb (get_or l (length l - 1) 0) 13) (length l - 1) (length l)

abbrev pub body : List ℕ → List ℕ
body l = take (body_length l) l

-- a line up to its comment
abbrev pub uncommented : List ℕ → List ℕ
uncommented l = take (run_length Class.Plain l) l

-- what a line says
unfoldable pub parsed : List ℕ → Result (Option Mapping) Wrong
parsed l = pick (ltb line_longest (body_length l)) (Err Wrong.LineTooLong) (from_kind (uncommented (body l)))
