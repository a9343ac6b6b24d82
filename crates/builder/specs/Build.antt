-- What the builder answers, and what it leaves in the lent memory (01, "The builder"; "When the unit says no", 4, 10,
-- 11, 12).
use Rattle.builder.specs.declared.BuildError.{BuildError}
use Rattle.std.specs.Prelude.{Result, Ok, Err}
use Rattle.records.specs.declared.BadList.{BadList}
use Rattle.std.specs.Prelude.{◌%◌, ◌++◌}
use Rattle.builder.specs.Names.{ℕ, Bool, not, List, eqb, ltb, length, drop, pick, ◌and◌, memory_ok, Mapping, mappings}
use Rattle.builder.specs.Names.{megabytes, checked, image_length}
use Rattle.builder.specs.Image.{image}

-- the tables need a base that is a multiple of this
abbrev pub base_unit : ℕ
base_unit = 4096

-- what refusal 4 asks of a builder's memory
unfoldable pub room_ok : ℕ → ℕ → Bool
room_ok base room = eqb (base % base_unit) 0 and memory_ok base room

-- a list's refusal as the builder's
abbrev pub refusal_of : BadList → BuildError
refusal_of (BadList.BadRecord i) = BuildError.BadRecord i
refusal_of (BadList.Overlap i) = BuildError.Overlap i

-- a check's refusal, or what follows it
abbrev pub after_check : Result Unit BadList → Result ℕ BuildError → Result ℕ BuildError
after_check (Ok tt) b = b
after_check (Err r) b = Err (refusal_of r)

-- 12 with the count, or the image's length
abbrev pub length_or : List Mapping → ℕ → Result ℕ BuildError
length_or ms room = pick (ltb room (image_length megabytes ms)) (Err (BuildError.TooLong (length ms))) (Ok (image_length megabytes ms))

-- 4; then record by record 10 and 11; then 12
unfoldable pub answer_of : List ℕ → ℕ → ℕ → Result ℕ BuildError
answer_of rs base room =
    pick (not (room_ok base room)) (Err BuildError.BadMemory) (after_check (checked megabytes rs) (length_or (mappings rs) room))

-- the memory after an answer: the image and every later byte as it was, or all as it was
abbrev pub leaves : Result ℕ BuildError → List ℕ → List ℕ → List ℕ
leaves (Ok n) img before = img ++ drop n before
leaves (Err BuildError.BadMemory) img before = before
leaves (Err (BuildError.BadRecord i)) img before = before
leaves (Err (BuildError.Overlap i)) img before = before
leaves (Err (BuildError.TooLong c)) img before = before

-- an answer and the memory beside it
pub record Outcome : Type 0 where
  pub answer : Result ℕ BuildError
  pub memory : List ℕ

abbrev pub outcome : Result ℕ BuildError → List ℕ → Outcome
outcome b l = record { answer = b; memory = l }

unfoldable pub build_of : List ℕ → ℕ → List ℕ → Outcome
build_of rs base before =
    outcome (answer_of rs base (length before)) (leaves (answer_of rs base (length before)) (image megabytes (mappings rs) base) before)

-- the paper's number of an answer, 0 where nothing is refused, and the value beside it
abbrev pub built_number : Result ℕ BuildError → ℕ
built_number (Ok n) = 0
built_number (Err BuildError.BadMemory) = 4
built_number (Err (BuildError.BadRecord i)) = 10
built_number (Err (BuildError.Overlap i)) = 11
built_number (Err (BuildError.TooLong c)) = 12

abbrev pub built_value : Result ℕ BuildError → ℕ
built_value (Ok n) = n
built_value (Err BuildError.BadMemory) = 0
built_value (Err (BuildError.BadRecord i)) = i
built_value (Err (BuildError.Overlap i)) = i
built_value (Err (BuildError.TooLong c)) = c
