-- A megabyte of large, small and tiny pages (02, P3): the lines that a sheet would have for it, worked out by hand.
use Rattle.std.specs.Prelude.{◌∷◌, ◌++◌}
use Rattle.sheet.specs.Names.{ℕ, List, [], replicate, Access}
use Rattle.sheet.specs.Sheet.{Line, word, fine, request, last_word, slot, line, both, address, fault}

-- large 510000 to 10020000, read; small 501000 to 10003000, both; tiny 500400 to 10000C00, both
abbrev pub records_mixed : List ℕ
records_mixed =
    0x00 ∷ 0x00 ∷ 0x51 ∷ 0x00 ∷ 0x00 ∷ 0x00 ∷ 0x02 ∷ 0x10 ∷ 1 ∷ 2 ∷ 0 ∷ 0
    ∷ 0x00 ∷ 0x10 ∷ 0x50 ∷ 0x00 ∷ 0x00 ∷ 0x30 ∷ 0x00 ∷ 0x10 ∷ 2 ∷ 3 ∷ 0 ∷ 0
    ∷ 0x00 ∷ 0x04 ∷ 0x50 ∷ 0x00 ∷ 0x00 ∷ 0x0C ∷ 0x00 ∷ 0x10 ∷ 3 ∷ 3 ∷ 0 ∷ 0
    ∷ []

-- its large and its small page in a slot
abbrev pub large_mixed : List ℕ
large_mixed = 1 ∷ 0x4405 ∷ 0x1002 ∷ 0x0200 ∷ []

abbrev pub small_mixed : List ℕ
small_mixed = 1 ∷ 0x4046 ∷ 0x1000 ∷ 0x3300 ∷ []

unfoldable pub mixed : List Line
mixed =
    line (word 5) (0x20001003 ∷ [])
    ++ line (fine 5 0 8) (0 ∷ 0x10000C33 ∷ 0 ∷ 0 ∷ replicate 4 0x10003032 ++ 0 ∷ [])
    ++ line (fine 5 63 128) (0 ∷ replicate 64 0x10020021 ++ 0 ∷ [])
    ++ line (request 0x512345 Access.Read) (address 0x10022345)
    ++ line (request 0x512345 Access.Write) (fault 23)
    ++ both (last_word 0x512345) (0x20001120 ∷ [])
    ++ both (slot 0 0x512345) large_mixed
    ++ both (request 0x501C00) (address 0x10003C00)
    ++ both (last_word 0x501C00) (0x2000101C ∷ [])
    ++ both (slot 0 0x501C00) small_mixed
    ++ both (request 0x5007FF) (address 0x10000FFF)
    ++ both (request 0x500800) (fault 21)
    ++ both (request 0x502000) (fault 21)
    ++ both (request 0x520000) (fault 21)
