-- A record of the builder's input as a mapping, and a mapping as a record (01, "The builder").
use Rattle.std.specs.Prelude.{◌*◌, ◌/◌, ◌%◌, ◌∷◌, ◌++◌}
use Rattle.records.specs.Names.{ℕ, zero, suc, Bool, List, [], length, get_or, take, drop, ◌or◌, agree, joined, virtual}
use Rattle.records.specs.Names.{physical, low_bits, kind_of, type_of, Kind, VirtualAddress, PhysicalAddress, word_of, word_bytes, Mapping}

-- the bytes of a record
abbrev pub record_size : ℕ
record_size = 12

-- record i: fewer bytes where the input ends
abbrev pub record_at : List ℕ → ℕ → List ℕ
record_at rs i = take record_size (drop (record_size * i) rs)

-- a record's virtual and physical address, type and access
unfoldable pub mapping_of : List ℕ → Mapping
mapping_of r = record
    { at = virtual (word_of (take 4 (drop 0 r))); to = physical (word_of (take 4 (drop 4 r))); kind = kind_of (get_or r 8 0); access = get_or r 9 0 }

-- a mapping's record: virtual, physical, type, access, two zero bytes
unfoldable pub record_of : Mapping → List ℕ
record_of m = word_bytes m.at.0 ++ (word_bytes m.to.0 ++ (type_of m.kind ∷ m.access % 256 ∷ 0 ∷ 0 ∷ []))

-- the records of mappings, one behind the other
unfoldable pub records_of : List Mapping → List ℕ
records_of [] = []
records_of (m ∷ ms) = record_of m ++ records_of ms

-- the mappings of n records from record i on, and of all whole records
unfoldable pub mappings_from : List ℕ → ℕ → ℕ → List Mapping
mappings_from rs i zero = []
mappings_from rs i (suc n) = mapping_of (record_at rs i) ∷ mappings_from rs (suc i) n

unfoldable pub mappings : List ℕ → List Mapping
mappings rs = mappings_from rs 0 (length rs / record_size)

-- what stands for a mapping where a list has none
abbrev pub no_mapping : Mapping
no_mapping = record { at = virtual 0; to = physical 0; kind = Kind.Section; access = 0 }

-- the mapping's region has the address
unfoldable pub holds : Mapping → VirtualAddress → Bool
holds m va = agree (low_bits m.kind) va.0 m.at.0

-- the physical byte that a mapping gives for an address
unfoldable pub byte_of : Mapping → VirtualAddress → PhysicalAddress
byte_of m va = physical (joined (low_bits m.kind) m.to.0 va.0)

-- two regions share an address: one has the other's first
unfoldable pub overlap : Mapping → Mapping → Bool
overlap m n = holds m n.at or holds n m.at
