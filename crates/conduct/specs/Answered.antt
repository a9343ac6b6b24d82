-- Demand 2, what a request, a retry, a prefetch and a shift report answer (01, "The unit", "The walk", "Registers",
-- "Meters and the walk bill").
use Rattle.std.specs.Prelude.{Some, None, Result, Ok, Err, ◌%◌, ◌<◌, ◌≡◌, ◌∷◌, ◌≢◌}
use Rattle.decision.specs.declared.ShiftError.{ShiftError}
use Rattle.walk.specs.declared.Unfound.{Unfound}
use Rattle.conduct.specs.Names.{ℕ, Bool, true, false, List, [], get_or, limit, physical, permits, word_access, word_matches}
use Rattle.conduct.specs.Names.{word_address, ℤ, physical_of, distance_of, found_number, slots, is_prefetch, is_on, is_walking, stall, Answer}
use Rattle.conduct.specs.Names.{page_at, shift_number, shift_values, prefetch_at, acknowledge_at, in_range, look, Call, write, drop-fault, shift}
use Rattle.conduct.specs.Names.{Said, step, Access, VirtualAddress, Lent, lent_ok, Page, Bill, Prices, Fault, Device}
use Rattle.conduct.specs.Refused.{Accepted}
use Rattle.conduct.specs.Attempted.{nothing, attempt, attempted}

-- slot i matches an address, and no lower slot does
pub record LowestMatch (d : Device) (va : VirtualAddress) (i : ℕ) : Type 0 where
  pub slot : i < slots
  pub matches : word_matches (get_or d.bank.cam i 0) va ≡ true
  pub below : (j : ℕ) → j < i → word_matches (get_or d.bank.cam j 0) va ≡ false

-- one acknowledgement suffices once a matching slot permits the access, no lower slot matches, and the call is not
-- refused
abbrev pub OneAcknowledgement : Type 0
OneAcknowledgement =
    (m : Lent) (d : Device) (b : Bill) (p : Prices) (v : ℕ) (k : Fault) (va : VirtualAddress) (a : Access) (i : ℕ)
    → is_on d.registers.control ≡ true
    → d.pending ≡ Some (stall k va a) → is_prefetch k ≡ false
    → LowestMatch d va i → permits (word_access (get_or d.bank.ram i 0)) a ≡ true
    → v % 2 ≡ 1 → Accepted m d b (write acknowledge_at v p)
    → ((step m d b (write acknowledge_at v p)).said ≡ Said.Answered (Answer.Address (word_address (get_or d.bank.cam i 0) (get_or d.bank.ram i 0) va)))
    × ((step m d b (write acknowledge_at v p)).device.pending ≡ None)

-- with the unit off a request or a retry that is not refused answers physical = virtual, reads no word, is not
-- smoothed, and leaves nothing pending
abbrev pub OffIsVirtual : Type 0
OffIsVirtual =
    (m : Lent) (d : Device) (b : Bill) (c : Call) (again : Bool) (va : VirtualAddress) (a : Access)
    → is_on d.registers.control ≡ false → attempted d c ≡ attempt again va a → Accepted m d b c
    → ((step m d b c).said ≡ Said.Answered (Answer.Address (physical va.0))) × ((step m d b c).tally.words ≡ 0) × ((step m d b c).bill ≡ b)
    × ((step m d b c).device.pending ≡ None)

-- no slot matches an address
abbrev pub NoSlot : Device → VirtualAddress → Type 0
NoSlot d va = (j : ℕ) → j < slots → word_matches (get_or d.bank.cam j 0) va ≡ false

-- on a match the slot's byte, or 23
pub record MatchAnswers (d : Device) (va : VirtualAddress) (a : Access) (i : ℕ) (s : Said) : Type 0 where
  pub byte :
      permits (word_access (get_or d.bank.ram i 0)) a ≡ true
      → s ≡ Said.Answered (Answer.Address (word_address (get_or d.bank.cam i 0) (get_or d.bank.ram i 0) va))
  pub refused : permits (word_access (get_or d.bank.ram i 0)) a ≡ false → s ≡ Said.Answered (Answer.Fault Fault.Permission)

-- on no match with walking what the plain walk finds: the page's byte, 23, or 21 (where it needs a word that is in
-- neither memory, the call is refused 3)
pub record WalkAnswers (f : Result Page Unfound) (va : VirtualAddress) (a : Access) (s : Said) : Type 0 where
  pub byte : (g : Page) → f ≡ Ok g → permits g.access a ≡ true → s ≡ Said.Answered (Answer.Address (physical_of g va))
  pub refused : (g : Page) → f ≡ Ok g → permits g.access a ≡ false → s ≡ Said.Answered (Answer.Fault Fault.Permission)
  pub none : f ≡ Err Unfound.NoPage → s ≡ Said.Answered (Answer.Fault Fault.Translation)
  pub there : f ≢ Err Unfound.Missing

-- what a request or a retry that is not refused answers while the unit is on
pub record OnAnswers (m : Lent) (d : Device) (va : VirtualAddress) (a : Access) (s : Said) : Type 0 where
  pub match : (i : ℕ) → LowestMatch d va i → MatchAnswers d va a i s
  pub miss : NoSlot d va → is_walking d.registers.control ≡ false → s ≡ Said.Answered (Answer.Fault Fault.Miss)
  pub walk : NoSlot d va → is_walking d.registers.control ≡ true → WalkAnswers (look m d va).found va a s

abbrev pub AnswersOn : Type 0
AnswersOn =
    (m : Lent) (d : Device) (b : Bill) (c : Call) (again : Bool) (va : VirtualAddress) (a : Access)
    → is_on d.registers.control ≡ true → attempted d c ≡ attempt again va a → Accepted m d b c
    → OnAnswers m d va a (step m d b c).said

-- accepted, with nothing to say
abbrev pub done : Said
done = Said.Answered Answer.Done

-- a prefetch that is not refused says nothing on a match and where its walk finds a page, whatever its access, and 24
-- where it finds none
pub record PrefetchAnswers (m : Lent) (d : Device) (va : VirtualAddress) (s : Said) : Type 0 where
  pub match : (i : ℕ) → LowestMatch d va i → s ≡ done
  pub page : (g : Page) → NoSlot d va → (look m d va).found ≡ Ok g → s ≡ done
  pub none : NoSlot d va → (look m d va).found ≡ Err Unfound.NoPage → s ≡ Said.Answered (Answer.Fault Fault.Prefetch)

abbrev pub PrefetchAnswered : Type 0
PrefetchAnswered =
    (m : Lent) (d : Device) (b : Bill) (v : ℕ) (p : Prices) → Accepted m d b (write prefetch_at v p)
    → PrefetchAnswers m d (page_at v) (step m d b (write prefetch_at v p)).said

-- the distance to what is found
abbrev pub distances : VirtualAddress → Result Page Unfound → List ℤ
distances va (Ok g) = distance_of (physical_of g va) va ∷ []
distances va (Err Unfound.NoPage) = []
distances va (Err Unfound.Missing) = []

-- a shift report tells the number of what the plain walk finds, 0, 21 or 3, and beside it the distance to a page
pub record ShiftTells (va : VirtualAddress) (f : Result Page Unfound) (s : Result ℤ ShiftError) : Type 0 where
  pub number : shift_number s ≡ found_number f
  pub values : shift_values s ≡ distances va f

-- whatever control, slots and access say, where neither 8 nor 1 nor 4 holds
abbrev pub ShiftAnswered : Type 0
ShiftAnswered =
    (m : Lent) (d : Device) (b : Bill) (va : VirtualAddress) (s : Result ℤ ShiftError) → in_range d ≡ true → va.0 < limit → lent_ok m ≡ true
    → (step m d b (shift va)).said ≡ Said.Reported s → ShiftTells va (look m d va).found s

-- a write that asks for no address, and a drop, say nothing where they are not refused
pub record SaysNothing (m : Lent) (d : Device) (b : Bill) : Type 0 where
  pub write : (o v : ℕ) (p : Prices) → attempted d (write o v p) ≡ nothing → Accepted m d b (write o v p) → (step m d b (write o v p)).said ≡ done
  pub dropped : Accepted m d b drop-fault → (step m d b drop-fault).said ≡ done

abbrev pub NothingSaid : Type 0
NothingSaid = (m : Lent) (d : Device) (b : Bill) → SaysNothing m d b
