-- What makes a record proper (01, "The builder"; "When the unit says no", 10).
use Rattle.std.specs.Prelude.{◌*◌, ◌%◌, ◌^◌}
use Rattle.records.specs.Names.{ℕ, Bool, List, eqb, ltb, leb, length, get_or, ◌and◌, ◌or◌, low_bits, Kind, Mapping}
use Rattle.records.specs.Mappings.{record_size, mapping_of}

-- x is a multiple of the page's size
unfoldable pub multiple : Kind → ℕ → Bool
multiple k x = eqb (x % 2 ^ low_bits k) 0

-- where there are n megabytes: virtual below their end, both addresses multiples of the page's size, access 2 or 3
unfoldable pub proper : ℕ → Mapping → Bool
proper n m =
    ltb m.at.0 (n * 2 ^ 20)
    and multiple m.kind m.at.0
    and multiple m.kind m.to.0
    and (eqb m.access 2 or eqb m.access 3)

-- all its bytes are there, the type is 0 to 3, the mapping is proper, the last two bytes are zero
unfoldable pub well_formed : ℕ → List ℕ → Bool
well_formed n r =
    leb record_size (length r)
    and ltb (get_or r 8 0) 4
    and proper n (mapping_of r)
    and eqb (get_or r 10 0) 0
    and eqb (get_or r 11 0) 0
