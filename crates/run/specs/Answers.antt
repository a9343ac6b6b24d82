-- What a call said as 16 bytes: a number, where the last word of its walk lies (02, P6), and a value of 8 bytes in two's complement.
use Rattle.std.specs.Prelude.{ℤ}
use Rattle.std.specs.Prelude.{Result, Ok, Err}
use Rattle.decision.specs.declared.ShiftError.{ShiftError}
use Rattle.std.specs.Prelude.{◌+◌, ◌*◌, ◌%◌, ◌^◌, ◌∷◌}
use Rattle.run.specs.Names.{ℕ, List, Place, answer_number, shift_number, Answer, Said, twos, wide}

-- the numbers of what the paper gives none: a physical address, a register's value, a distance
abbrev pub an_address : ℕ
an_address = 100

abbrev pub a_value : ℕ
a_value = 101

abbrev pub a_distance : ℕ
a_distance = 102

abbrev pub answer_code : Answer → ℕ
answer_code (Answer.Address x) = an_address
answer_code (Answer.Fault k) = answer_number (Answer.Fault k)
answer_code (Answer.Value x) = a_value
answer_code Answer.Done = answer_number Answer.Done
answer_code (Answer.Refused k) = answer_number (Answer.Refused k)

abbrev pub answer_word : Answer → ℕ
answer_word (Answer.Address x) = x.0
answer_word (Answer.Fault k) = 0
answer_word (Answer.Value x) = x
answer_word Answer.Done = 0
answer_word (Answer.Refused k) = 0

abbrev pub shift_code : Result ℤ ShiftError → ℕ
shift_code (Ok z) = a_distance
shift_code (Err ShiftError.Fault) = shift_number (Err ShiftError.Fault)
shift_code (Err (ShiftError.Refused k)) = shift_number (Err (ShiftError.Refused k))

abbrev pub shift_word : Result ℤ ShiftError → ℕ
shift_word (Ok z) = twos z
shift_word (Err ShiftError.Fault) = 0
shift_word (Err (ShiftError.Refused k)) = 0

-- a place: memory * 2^28 + offset, the memories being 1 on chip and 2 external; 0 is nowhere
abbrev pub place_code : Place → ℕ
place_code (Place.OnChip k) = 1 * 2 ^ 28 + k
place_code (Place.External k) = 2 * 2 ^ 28 + k
place_code Place.Nowhere = 0

-- the offset in the bits that there are for it
abbrev pub cut_place : Place → Place
cut_place (Place.OnChip k) = Place.OnChip (k % 2 ^ 28)
cut_place (Place.External k) = Place.External (k % 2 ^ 28)
cut_place Place.Nowhere = Place.Nowhere

-- a number, a place and a value
abbrev pub answer_words : ℕ → Place → ℕ → List ℕ
answer_words number place value = number ∷ place_code place ∷ wide value

abbrev pub said_words : Said → Place → List ℕ
said_words (Said.Answered r) f = answer_words (answer_code r) f (answer_word r)
said_words (Said.Reported s) f = answer_words (shift_code s) f (shift_word s)
