-- The builder, demand 1: each refusal, with its index or count, exactly when the paper says (01, "When the unit says no"); and demand 2:
-- what an accepted build answers and leaves (01, "The builder").
use Rattle.std.specs.Prelude.{Result, Ok}
use Rattle.builder.specs.declared.BuildError.{BuildError}
use Rattle.std.specs.Prelude.{◌≡◌, ◌∷◌, ◌++◌}
use Rattle.demands.specs.Demands.Names.{megabytes, ℕ, zero, suc, Bool, true, false, not, List, [], eqb, ltb, length, drop}
use Rattle.demands.specs.Demands.Names.{mappings, bad, overlapping, begun, image_length, image, room_ok, answer_of, build_of, built_number}
use Rattle.demands.specs.Demands.Names.{built_value, Refusing, First, Clear}

-- record by record, 10 then 11, each with the record's index; then the rest
abbrev pub record_refusals : List ℕ → ℕ → ℕ → Refusing (ℕ × ℕ) → Refusing (ℕ × ℕ)
record_refusals rs i zero rest = rest
record_refusals rs i (suc n) rest = (bad megabytes rs i, (10, i)) ∷ (overlapping rs i, (11, i)) ∷ record_refusals rs (suc i) n rest

-- 4; then every record that the input begins; then 12 with the count
abbrev pub build_refusals : List ℕ → ℕ → ℕ → Refusing (ℕ × ℕ)
build_refusals rs base room =
    (not (room_ok base room), (4, 0))
    ∷ record_refusals rs 0 (begun rs) ((ltb room (image_length megabytes (mappings rs)), (12, length (mappings rs))) ∷ [])

-- a build is refused: its number is not 0; what it says is the number and the value beside it
abbrev pub built_refused : Result ℕ BuildError → Bool
built_refused x = not (eqb (built_number x) 0)

abbrev pub built_said : Result ℕ BuildError → ℕ × ℕ
built_said x = (built_number x, built_value x)

-- a build refuses with a number and a value exactly when their condition is the first that holds, is accepted exactly when none
-- does, and a refused one leaves every byte of the lent memory
pub record BuildRefuses : Type 0 where
  pub when :
      (rs : List ℕ) (base room k i : ℕ)
      → ((built_refused (answer_of rs base room) ≡ true) × (built_said (answer_of rs base room) ≡ (k, i)) → First (build_refusals rs base room) (k, i))
      × (First (build_refusals rs base room) (k, i) → (built_refused (answer_of rs base room) ≡ true) × (built_said (answer_of rs base room) ≡ (k, i)))
  pub otherwise :
      (rs : List ℕ) (base room : ℕ)
      → (built_refused (answer_of rs base room) ≡ false → Clear (build_refusals rs base room))
      × (Clear (build_refusals rs base room) → built_refused (answer_of rs base room) ≡ false)
  pub answers : (rs : List ℕ) (base : ℕ) (before : List ℕ) → (build_of rs base before).answer ≡ answer_of rs base (length before)
  pub unchanged :
      (rs : List ℕ) (base : ℕ) (before : List ℕ) → built_refused (build_of rs base before).answer ≡ true → (build_of rs base before).memory ≡ before

-- an accepted build answers the image's length, writes the image, and leaves every later byte
pub record ImageLeft (rs : List ℕ) (base len : ℕ) (before after : List ℕ) : Type 0 where
  pub length-is : len ≡ length (image megabytes (mappings rs) base)
  pub memory : after ≡ image megabytes (mappings rs) base ++ drop len before

abbrev pub BuildLeaves : Type 0
BuildLeaves =
    (rs : List ℕ) (base len : ℕ) (before : List ℕ) → (build_of rs base before).answer ≡ Ok len
    → ImageLeft rs base len before (build_of rs base before).memory
