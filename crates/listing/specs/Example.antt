-- A text with all that a line may have, and what it is read to: comments, a tab, blanks, 0x, a CRLF end, a last line without an end.
use Rattle.std.specs.Prelude.{Ok, Err}
use Rattle.listing.specs.declared.ReadError.{ReadError}
use Rattle.std.specs.Prelude.{◌*◌, ◌≤◌, ◌≡◌, ◌∷◌, ◌++◌}
use Rattle.listing.specs.Names.{ℕ, List, [], length, set, Kind, Mapping, record_size, most, Wrong}
use Rattle.listing.specs.Lines.{mapping}
use Rattle.listing.specs.Purposes.{span, purpose_of}
use Rattle.listing.specs.Texts.{reading, read_text}
use Rattle.records.specs.Mappings.{record_of}
use Rattle.wire.specs.Words.{pasted}

-- "# list A", a line feed
abbrev pub heading : List ℕ
heading = 35 ∷ 32 ∷ 108 ∷ 105 ∷ 115 ∷ 116 ∷ 32 ∷ 65 ∷ 10 ∷ []

-- "large", a tab, "010000 0x10020000 rw # heap", CRLF
abbrev pub first_line : List ℕ
first_line =
    108 ∷ 97 ∷ 114 ∷ 103 ∷ 101 ∷ 9 ∷ 48 ∷ 49 ∷ 48 ∷ 48 ∷ 48 ∷ 48 ∷ 32 ∷ 48 ∷ 120 ∷ 49 ∷ 48 ∷ 48 ∷ 50 ∷ 48 ∷ 48 ∷ 48 ∷ 48
    ∷ 32 ∷ 114 ∷ 119 ∷ 32 ∷ 35 ∷ 32 ∷ 104 ∷ 101 ∷ 97 ∷ 112 ∷ 13 ∷ 10 ∷ []

-- "tiny 500400 10000c00 r"
abbrev pub last_line : List ℕ
last_line =
    116 ∷ 105 ∷ 110 ∷ 121 ∷ 32 ∷ 53 ∷ 48 ∷ 48 ∷ 52 ∷ 48 ∷ 48 ∷ 32 ∷ 49 ∷ 48 ∷ 48 ∷ 48 ∷ 48 ∷ 99 ∷ 48 ∷ 48 ∷ 32 ∷ 114 ∷ []

-- "tiny 500600 10000c00 r": 500600 is no multiple of 1,024
abbrev pub uneven_line : List ℕ
uneven_line =
    116 ∷ 105 ∷ 110 ∷ 121 ∷ 32 ∷ 53 ∷ 48 ∷ 48 ∷ 54 ∷ 48 ∷ 48 ∷ 32 ∷ 49 ∷ 48 ∷ 48 ∷ 48 ∷ 48 ∷ 99 ∷ 48 ∷ 48 ∷ 32 ∷ 114 ∷ []

-- the two mappings
abbrev pub heap : Mapping
heap = mapping Kind.Large 0x010000 0x10020000 3

abbrev pub page : Mapping
page = mapping Kind.Tiny 0x500400 0x10000C00 2

-- it is read to two mappings of lines 2 and 3
abbrev pub ReadsTwo : Type 0
ReadsTwo =
    (rs ls : List ℕ) → record_size * most ≤ length rs → most ≤ length ls
    → read_text (heading ++ (first_line ++ last_line)) rs ls
    ≡ reading (Ok 2) (pasted (pasted rs 0 (record_of heap)) 12 (record_of page)) (set (set ls 0 2) 1 3)

-- and with the other last line refused there, behind one mapping
abbrev pub RefusesThird : Type 0
RefusesThird =
    (rs ls : List ℕ) → record_size * most ≤ length rs → most ≤ length ls
    → read_text (heading ++ (first_line ++ uneven_line)) rs ls ≡ reading (Err (ReadError.Bad 3 Wrong.VirtualUneven)) (pasted rs 0 (record_of heap)) (set ls 0 2)

-- what line 2 is for: "heap"
abbrev pub PurposeOfSecond : Type 0
PurposeOfSecond = purpose_of (heading ++ (first_line ++ last_line)) 2 ≡ span 38 42
