-- A text as lines, and its mappings as the builder's records (01, "The builder"), up to the first bad line.
use Rattle.listing.specs.declared.ReadError.{ReadError}
use Rattle.std.specs.Prelude.{Result, Ok, Err, Option, Some, None}
use Rattle.std.specs.Prelude.{◌*◌, ◌≤◌, ◌∷◌}
use Rattle.listing.specs.Names.{ℕ, suc, List, [], eqb, ltb, leb, length, set, pick, ◌or◌, Mapping, record_size}
use Rattle.listing.specs.Names.{most, Wrong}
use Rattle.listing.specs.Lines.{parsed}
use Rattle.records.specs.Mappings.{record_of}
use Rattle.wire.specs.Words.{pasted}

-- the most bytes of a text
abbrev pub longest_text : ℕ
longest_text = 262144

-- a byte in front of the first line
abbrev pub onto : ℕ → List (List ℕ) → List (List ℕ)
onto x [] = (x ∷ []) ∷ []
onto x (l ∷ t) = (x ∷ l) ∷ t

-- a text's lines: what stands before, between and behind its line feeds
unfoldable pub lines_of : List ℕ → List (List ℕ)
lines_of [] = [] ∷ []
lines_of (x ∷ t) = pick (eqb x 10) ([] ∷ lines_of t) (onto x (lines_of t))

-- what reading leaves: the answer, the memory of the records, and that of the line numbers
pub record Reading : Type 0 where
  pub answer : Result ℕ ReadError
  pub records : List ℕ
  pub lines : List ℕ

abbrev pub reading : Result ℕ ReadError → List ℕ → List ℕ → Reading
reading a rs ls = record { answer = a; records = rs; lines = ls }

-- a text that is not too long, and memories with room for the most mappings
pub record Rooms (t rs ls : List ℕ) : Type 0 where
  pub text : length t ≤ longest_text
  pub records : record_size * most ≤ length rs
  pub lines : most ≤ length ls

-- one of three, by what a line says
abbrev pub by_said : {A : Type 0} → Result (Option Mapping) Wrong → A → (Mapping → A) → (Wrong → A) → A
by_said (Ok None) a f g = a
by_said (Ok (Some m)) a f g = f m
by_said (Err w) a f g = g w

-- lines from line i on, behind n mappings: each mapping's record and line number are put in their place, up to the first bad line
unfoldable pub read_lines : ℕ → ℕ → List (List ℕ) → List ℕ → List ℕ → Reading
read_lines i n [] rs ls = reading (Ok n) rs ls
read_lines i n (l ∷ t) rs ls =
    by_said (parsed l)
    (read_lines (suc i) n t rs ls)
    (λ m.
    pick (leb most n) (reading (Err (ReadError.Bad i Wrong.TooManyMappings)) rs ls)
    (read_lines (suc i) (suc n) t (pasted rs (record_size * n) (record_of m)) (set ls n i)))
    (λ w. reading (Err (ReadError.Bad i w)) rs ls)

-- a text from its first line on; memories too short for the most mappings, and a text that is too long, change nothing
unfoldable pub read_text : List ℕ → List ℕ → List ℕ → Reading
read_text t rs ls =
    pick (ltb (length rs) (record_size * most) or ltb (length ls) most) (reading (Err ReadError.NoRoom) rs ls)
    (pick (ltb longest_text (length t)) (reading (Err (ReadError.Bad 0 Wrong.TextTooLong)) rs ls)
    (read_lines 1 0 (lines_of t) rs ls))
