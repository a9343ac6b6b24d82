-- The proved lines of the bench sheet as one table (01, "Bench sheet"): a question to the bench, and the numbers that answer it.
use Rattle.std.specs.Prelude.{Result}
use Rattle.builder.specs.declared.BuildError.{BuildError}
use Rattle.std.specs.Prelude.{◌+◌, ◌-◌, ◌*◌, ◌/◌, ◌≡◌, ◌∷◌, ◌++◌}
use Rattle.sheet.specs.Names.{ℕ, zero, suc, Bool, true, false, List, [], eqb, get_or, take, drop, replicate}
use Rattle.sheet.specs.Names.{◌and◌, virtual, word_valid, word_of, Lent, Place, first_of, First, answer_of, built_number, built_value}
use Rattle.sheet.specs.Names.{fresh_bill, slots, answer_number, answer_values, entry_of, Access, Bank, Answer, Entry, Device, Outcome}
use Rattle.sheet.specs.Names.{request_of, records_a, base_a, prices_a, start_a}
use Rattle.sheet.specs.Bench.{lent_a, locked_a}

-- what a line asks
pub data Question : Type 0 where
  -- word k of the image
  word : ℕ → Question
  -- words j to k of the coarse, or the fine, table that first-level word i names
  coarse : ℕ → ℕ → ℕ → Question
  fine : ℕ → ℕ → ℕ → Question
  -- the answer to a request
  request : ℕ → Access → Question
  -- the address of the word that a request's answer came from
  last_word : ℕ → Access → Question
  -- slot i in register form after a request
  slot : ℕ → ℕ → Access → Question
  -- the valid slots, and slot i in register form, after a request that follows a write of lock base and victim
  locked_valid : ℕ → ℕ → ℕ → Access → Question
  locked_slot : ℕ → ℕ → ℕ → ℕ → Access → Question
  -- the builder's answer where the memory has n bytes
  room : ℕ → Question

-- a line: a question and the numbers that are expected
abbrev pub Line : Type 0
Line = Question × List ℕ

-- an answer is the paper's number, 0 where it has none, and the values beside it
abbrev pub said_numbers : Answer → List ℕ
said_numbers r = answer_number r ∷ answer_values r

abbrev pub built_numbers : Result ℕ BuildError → List ℕ
built_numbers b = built_number b ∷ built_value b ∷ []

abbrev pub address : ℕ → List ℕ
address x = 0 ∷ x ∷ []

abbrev pub fault : ℕ → List ℕ
fault k = k ∷ []

abbrev pub refused : ℕ → List ℕ
refused k = k ∷ []

abbrev pub accepted_length : ℕ → List ℕ
accepted_length n = 0 ∷ n ∷ []

abbrev pub refused_count : ℕ → ℕ → List ℕ
refused_count k count = k ∷ count ∷ []

-- a line that names an access or asks no request, and one that names none and so holds for both
abbrev pub line : Question → List ℕ → List Line
line q expected = (q, expected) ∷ []

abbrev pub both : (Access → Question) → List ℕ → List Line
both q expected = (q Access.Read, expected) ∷ (q Access.Write, expected) ∷ []

-- the large page of list A in a slot
abbrev pub large_a : List ℕ
large_a = 0 ∷ 0x0405 ∷ 0x1002 ∷ 0x0300 ∷ []

-- the sheet's proved lines, in its order
unfoldable pub sheet : List Line
sheet =
    line (word 0) (0x20000401 ∷ [])
    ++ line (word 3) (0x11200802 ∷ [])
    ++ line (word 5) (0x20001003 ∷ [])
    ++ line (coarse 0 16 31) (replicate 16 0x10020031)
    ++ line (fine 5 1 1) (0x10000C33 ∷ [])
    ++ both (request 0x012345) (address 0x10022345)
    ++ both (last_word 0x012345) (0x20000448 ∷ [])
    ++ both (slot 0 0x012345) large_a
    ++ line (request 0x3ABCDE Access.Read) (address 0x112ABCDE)
    ++ line (request 0x3ABCDE Access.Write) (fault 23)
    ++ both (request 0x5007FF) (address 0x10000FFF)
    ++ both (request 0x500800) (fault 21)
    ++ both (request 0xFFFFFF) (fault 21)
    ++ both (request 0x1000000) (refused 1)
    ++ line (room 8192) (accepted_length 8192)
    ++ line (room 8188) (refused_count 12 3)
    ++ both (locked_valid 31 0 0x012345) (31 ∷ [])
    ++ both (locked_slot 31 0 31 0x012345) large_a

-- the address of a place; nowhere has none
abbrev pub address_in : Lent → Place → List ℕ
address_in m (Place.OnChip k) = (m.onbase + k) ∷ []
address_in m (Place.External k) = (m.extbase + k) ∷ []
address_in m Place.Nowhere = []

-- slot i in register form: CAM high, CAM low, RAM high, RAM low
abbrev pub entry_halves : Entry → List ℕ
entry_halves e = e.camhi ∷ e.camlo ∷ e.ramhi ∷ e.ramlo ∷ []

abbrev pub slot_halves : Bank → ℕ → List ℕ
slot_halves b i = entry_halves (entry_of (record { cam = get_or b.cam i 0; ram = get_or b.ram i 0 }))

-- i before others where a test holds
abbrev pub kept_if : Bool → ℕ → List ℕ → List ℕ
kept_if true i is = i ∷ is
kept_if false i is = is

-- the valid ones of the n slots from i on
abbrev pub valid_from : ℕ → ℕ → Bank → List ℕ
valid_from zero i b = []
valid_from (suc n) i b = kept_if (word_valid (get_or b.cam i 0)) i (valid_from n (i + 1) b)

-- two lists of numbers are equal
abbrev pub same_numbers : List ℕ → List ℕ → Bool
same_numbers [] [] = true
same_numbers [] (y ∷ ys) = false
same_numbers (x ∷ xs) [] = false
same_numbers (x ∷ xs) (y ∷ ys) = eqb x y and same_numbers xs ys

-- the bench with these bytes in its memory
module _ (bytes : List ℕ) where
  -- word k, and n words from word k on
  abbrev pub word_in : ℕ → ℕ
  word_in k = word_of (take 4 (drop (4 * k) bytes))

  abbrev pub words_in : ℕ → ℕ → List ℕ
  words_in k zero = []
  words_in k (suc n) = word_in k ∷ words_in (k + 1) n

  -- words j to k of the table at an address
  abbrev pub table_words : ℕ → ℕ → ℕ → List ℕ
  table_words at j k = words_in ((at - base_a) / 4 + j) (k + 1 - j)

  -- of the coarse table that a first-level word names; none where it names no such table
  abbrev pub coarse_words : First → ℕ → ℕ → List ℕ
  coarse_words First.Fault j k = []
  coarse_words (First.Coarse t) j k = table_words t.0 j k
  coarse_words (First.Whole p) j k = []
  coarse_words (First.Fine t) j k = []

  -- of the fine one
  abbrev pub fine_words : First → ℕ → ℕ → List ℕ
  fine_words First.Fault j k = []
  fine_words (First.Coarse t) j k = []
  fine_words (First.Whole p) j k = []
  fine_words (First.Fine t) j k = table_words t.0 j k

  -- the device that each line starts from, and the same locked
  abbrev pub begun : Device
  begun = start_a (lent_a bytes)

  abbrev pub locked : ℕ → ℕ → Device
  locked lock victim = locked_a (lent_a bytes) lock victim

  -- a request of a device
  abbrev pub asked : Device → ℕ → Access → Outcome
  asked d va a = request_of (lent_a bytes) prices_a fresh_bill d (virtual va) a

  -- what the bench answers
  unfoldable pub answered_in : Question → List ℕ
  answered_in (word k) = word_in k ∷ []
  answered_in (coarse i j k) = coarse_words (first_of (word_in i)) j k
  answered_in (fine i j k) = fine_words (first_of (word_in i)) j k
  answered_in (request va a) = said_numbers (asked begun va a).answer
  answered_in (last_word va a) = address_in (lent_a bytes) (asked begun va a).from
  answered_in (slot i va a) = slot_halves (asked begun va a).device.bank i
  answered_in (locked_valid lock victim va a) = valid_from slots 0 (asked (locked lock victim) va a).device.bank
  answered_in (locked_slot lock victim i va a) = slot_halves (asked (locked lock victim) va a).device.bank i
  answered_in (room n) = built_numbers (answer_of records_a base_a n)

  -- it answers as a line expects
  unfoldable pub passes_in : Line → Bool
  passes_in l = same_numbers (answered_in l.0) l.1

  -- as each line of a list does
  abbrev pub all_pass_in : List Line → Bool
  all_pass_in [] = true
  all_pass_in (l ∷ ls) = passes_in l and all_pass_in ls

  -- each line of a list as an equation
  abbrev pub Each : List Line → Type 0
  Each [] = Unit {0}
  Each (l ∷ ls) = (answered_in l.0 ≡ l.1) × Each ls
