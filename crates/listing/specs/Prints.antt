-- A list of records as text: a line for each, as reading takes it.
use Rattle.std.specs.Prelude.{Result, Ok, Err}
use Rattle.listing.specs.declared.PrintError.{PrintError}
use Rattle.std.specs.Prelude.{◌+◌, ◌*◌, ◌/◌, ◌%◌, ◌∷◌, ◌++◌}
use Rattle.listing.specs.Names.{ℕ, zero, suc, Bool, true, List, [], eqb, ltb, leb, length, pick, ◌and◌}
use Rattle.listing.specs.Names.{megabytes, Kind, Mapping, record_size, record_at, mappings, well_formed, most}
use Rattle.listing.specs.Words.{kind_text, read_only_text, both_text}
use Rattle.wire.specs.Words.{pasted, shown, Shown}

-- a hex digit's byte, in upper case
unfoldable pub glyph : ℕ → ℕ
glyph d = pick (ltb d 10) (48 + d) (55 + d)

-- a number's last k hex digits
unfoldable pub hex_text : ℕ → ℕ → List ℕ
hex_text zero x = []
hex_text (suc k) x = hex_text k (x / 16) ++ (glyph (x % 16) ∷ [])

-- a kind's word and blanks up to the next column
abbrev pub kind_column : Kind → List ℕ
kind_column Kind.Section = kind_text Kind.Section ++ (32 ∷ [])
kind_column Kind.Large = kind_text Kind.Large ++ (32 ∷ 32 ∷ 32 ∷ [])
kind_column Kind.Small = kind_text Kind.Small ++ (32 ∷ 32 ∷ 32 ∷ [])
kind_column Kind.Tiny = kind_text Kind.Tiny ++ (32 ∷ 32 ∷ 32 ∷ 32 ∷ [])

-- an address's k digits and a blank
abbrev pub hex_column : ℕ → ℕ → List ℕ
hex_column k x = hex_text k x ++ (32 ∷ [])

-- the word of an access
unfoldable pub access_text : ℕ → List ℕ
access_text a = pick (eqb a 3) both_text read_only_text

-- an access's word and the line's end
abbrev pub access_column : ℕ → List ℕ
access_column a = access_text a ++ (10 ∷ [])

-- a mapping's line
unfoldable pub line_text : Mapping → List ℕ
line_text m = kind_column m.kind ++ (hex_column 6 m.at.0 ++ (hex_column 8 m.to.0 ++ access_column m.access))

-- the most bytes of such a line with its end
abbrev pub widest : ℕ
widest = 27

-- the lines of mappings
unfoldable pub printed : List Mapping → List ℕ
printed [] = []
printed (m ∷ ms) = line_text m ++ printed ms

-- k records from record i on are well-formed
unfoldable pub formed_from : List ℕ → ℕ → ℕ → Bool
formed_from rs i zero = true
formed_from rs i (suc k) = well_formed megabytes (record_at rs i) and formed_from rs (suc i) k

-- a list of well-formed records: all are whole, and there are at most as many as the builder takes
unfoldable pub formed : List ℕ → Bool
formed rs = eqb (length rs % record_size) 0 and leb (length rs / record_size) most and formed_from rs 0 (length rs / record_size)

-- bytes in a memory from an index on, and the index behind them
abbrev pub shown_at : List ℕ → ℕ → List ℕ → Shown
shown_at l at s = shown (at + length s) (pasted l at s)

-- what printing leaves: the answer and the memory
pub record Printing : Type 0 where
  pub answer : Result ℕ PrintError
  pub memory : List ℕ

abbrev pub printing : Result ℕ PrintError → List ℕ → Printing
printing a l = record { answer = a; memory = l }

-- the text at the front of a memory; what is no such list, and a memory without room for as many of the widest lines, changes nothing
unfoldable pub print_text : List ℕ → List ℕ → Printing
print_text rs l =
    pick (formed rs)
    (pick (ltb (length l) (widest * (length rs / record_size))) (printing (Err PrintError.NoRoom) l)
    (printing (Ok (length (printed (mappings rs)))) (pasted l 0 (printed (mappings rs)))))
    (printing (Err PrintError.NoList) l)
