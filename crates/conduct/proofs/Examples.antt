-- The theorems are not empty: small devices, computed by hand and here. Assumes nothing.
use Rattle.std.proofs.Common.{Some, Option, None}
use Rattle.conduct.specs.Names.{◌≡◌, Bool, true, false, [], ◌∷◌, ℕ, ◌+◌, ◌*◌, ◌/◌, ◌%◌, ◌^◌, ◌<◌, length, pick, ◌and◌, lent_ok, Place}
use Rattle.conduct.specs.Names.{moved_walked, physical, word_matches, word_address, slot_at, next_slot, next_victim, cam_address}
use Rattle.conduct.specs.Names.{listed, stall, Answer, Fault, fresh_device, in_range, acknowledge_at, flush_at, entry_flush_at, request, write, shift}
use Rattle.conduct.specs.Names.{Said, Step, step, Access, Words, Lent, Prices, Device}
use Rattle.conduct.proofs.Names.{refl, sym, ◌∙◌, ap, arith, leb, pick_by, pick_no, take, ◌or◌, word_flushed, word_flushed_at, place_in, word_of, read_in, walk_from, bank_ok, first_of, all_from}
use Rattle.conduct.proofs.Names.{registers_ok, no_register, when_bit, command_of, by_access, by_found, decided, refuses, set_bank, lacks, is_malformed}
use Rattle.conduct.proofs.Names.{is_untimely, write_lacks, request_of, write_of}
use lib.Count.{count_trailing_zeros}
use lib.Ieee.{of_bits, of_fields, odd, le, lt, eq}
use Rattle.page.specs.Low.{upper, joined}
use Rattle.page.specs.Words.{virtual, kind_of, word_dropped, made_cam, made_ram}
use Prim.Native.Nat.{zero, suc}
use borrow.Author.Tests.{lt-leb}
use Rattle.memory.specs.Memory.{lent, memory_ok, apart, memories_ok, lies_in, place_within, part_at}
use Rattle.walk.specs.Walk.{first_at, read_at, after_first}
use Rattle.prices.specs.Prices.{f0, figure_ok, every}
use Rattle.bill.specs.Bill.{fresh_bill, money_ok}
use Rattle.prices.specs.declared.Price.{Price}
use Rattle.bank.specs.Slots.{fresh_bank}
use Rattle.bank.specs.Changes.{stored_at, locked_at, filled}
use Rattle.lanes.specs.Lanes.{looked_from, flushed_all, flushed_entry}
use Rattle.registers.specs.Fields.{entry_ok, fresh_registers, with_base, with_control, with_staged}
use Rattle.unit.specs.Device.{set_registers}
use Rattle.unit.specs.Calls.{shift_from}
use Rattle.conduct.specs.Placed.{memory_of, AlikeBut}
use Rattle.conduct.specs.Metered.{one_fresh, one_retry}

abbrev free : Prices
free = record { onchip = Price.Flat f0; external = Price.Flat f0 }

-- two first-level words: 11200802, a section at 11200000 for reading, and a fault
abbrev two_words : Lent
two_words = lent (0x02 ∷ 0x08 ∷ 0x20 ∷ 0x11 ∷ 0 ∷ 0 ∷ 0 ∷ 0 ∷ []) 0 [] 0

-- on and walking from base 0, with the lock base at 5 and the victim at 2
abbrev running : Device
running = set_bank (set_registers fresh_device (with_control fresh_registers 7)) (locked_at fresh_bank 5 2)

abbrev section : Words
section = record { cam = 0x4; ram = 0x11200200 }

abbrev asking : Device → ℕ → Access → Step
asking d va a = step two_words d fresh_bill (request (virtual va) a free)

-- a fresh device is off: physical is virtual; 2^24 is refused 1
fresh_answers :
    ((asking fresh_device 0x012345 Access.Write).said ≡ Said.Answered (Answer.Address (physical 0x012345)))
    × ((asking fresh_device 0x012345 Access.Write).tally ≡ one_fresh 0)
    × ((asking fresh_device 0x1000000 Access.Read).said ≡ Said.Answered (Answer.Refused 1))
unfolding request_of refuses pick ◌and◌ ◌or◌ in_range registers_ok entry_ok bank_ok all_from memories_ok memory_ok apart money_ok every figure_ok le lt eq of_bits of_fields odd count_trailing_zeros lacks decided
fresh_answers = (refl, refl, refl)

-- a walk that finds a page fills slot 5 and moves the victim on, also where access is then refused
walk_fills :
    ((asking running 0x012345 Access.Read).said ≡ Said.Answered (Answer.Address (physical 0x11212345)))
    × ((asking running 0x012345 Access.Read).tally ≡ one_fresh 1)
    × ((asking running 0x012345 Access.Write).said ≡ Said.Answered (Answer.Fault Fault.Permission))
    × (slot_at (asking running 0x012345 Access.Write).device.bank 5 ≡ section)
    × ((asking running 0x012345 Access.Write).device.bank.victim ≡ 6)
unfolding request_of refuses pick ◌and◌ ◌or◌ in_range registers_ok entry_ok bank_ok all_from memories_ok memory_ok apart money_ok every figure_ok le lt eq
    of_bits of_fields odd count_trailing_zeros lacks decided looked_from word_matches kind_of walk_from first_at upper joined read_in place_in place_within lies_in
    word_of first_of by_found by_access filled next_slot next_victim made_cam made_ram
walk_fills = (refl, refl, refl, refl, refl)

-- one that finds none fills nothing, and one that lacks its word is refused 3
walk_faults :
    ((asking running 0x112345 Access.Read).said ≡ Said.Answered (Answer.Fault Fault.Translation))
    × ((asking running 0x112345 Access.Read).tally ≡ one_fresh 1)
    × ((asking running 0x112345 Access.Read).device.bank ≡ running.bank)
    × ((asking running 0x212345 Access.Read).said ≡ Said.Answered (Answer.Refused 3))
unfolding request_of refuses pick ◌and◌ ◌or◌ in_range registers_ok entry_ok bank_ok all_from memories_ok memory_ok apart money_ok every figure_ok le lt eq
    of_bits of_fields odd count_trailing_zeros lacks decided looked_from word_matches kind_of walk_from first_at upper read_in place_in place_within lies_in word_of
    first_of by_found
walk_faults = (refl, refl, refl, refl)

-- on with a slot that the host loaded after the miss: one acknowledgement gives the address
abbrev waiting : Device
waiting = record {
  registers = with_control fresh_registers 3;
  bank = stored_at fresh_bank 0 section;
  pending = Some (stall Fault.Miss (virtual 0x012345) Access.Read);
}

acknowledged :
    ((step two_words waiting fresh_bill (write acknowledge_at 1 free)).said ≡ Said.Answered (Answer.Address (physical 0x11212345)))
    × ((step two_words waiting fresh_bill (write acknowledge_at 1 free)).tally ≡ one_retry 0)
    × ((step two_words waiting fresh_bill (write acknowledge_at 1 free)).device.pending ≡ None)
unfolding write_of refuses pick ◌and◌ ◌or◌ in_range registers_ok entry_ok bank_ok all_from memories_ok memory_ok apart money_ok every figure_ok le lt eq of_bits
    of_fields odd count_trailing_zeros no_register is_malformed is_untimely write_lacks lacks command_of listed decided looked_from word_matches kind_of by_access
    word_address upper joined
acknowledged = (refl, refl, refl)

-- slot 0 is valid, slot 1 valid and preserved, and the CAM registers have slot 1's address
abbrev loaded : Device
loaded = record {
  registers = with_staged fresh_registers (record { camhi = 0; camlo = 0x4000; ramhi = 0; ramlo = 0 });
  bank = stored_at (stored_at fresh_bank 0 section) 1 (record { cam = 0x400c; ram = 0x11300200 });
  pending = None;
}

-- a global flush leaves slot 1, an entry flush clears its V, preserved or not
flushed :
    (take 2 (step two_words loaded fresh_bill (write flush_at 1 free)).device.bank.cam ≡ 0 ∷ 0x400c ∷ [])
    × (take 2 (step two_words loaded fresh_bill (write entry_flush_at 1 free)).device.bank.cam ≡ 0x4 ∷ 0x4008 ∷ [])
unfolding write_of refuses pick ◌and◌ ◌or◌ in_range registers_ok entry_ok bank_ok all_from no_register is_malformed is_untimely write_lacks command_of listed
    when_bit flushed_all flushed_entry cam_address word_flushed word_flushed_at word_dropped word_matches kind_of
flushed = (refl, refl)

-- a walk that finds a page and one that finds none come from their word; a refusal, and a unit that is off, from
-- nowhere
walk_from_lem :
    ((asking running 0x012345 Access.Write).from ≡ Place.OnChip 0)
    × ((asking running 0x112345 Access.Read).from ≡ Place.OnChip 4)
    × ((asking running 0x212345 Access.Read).from ≡ Place.Nowhere)
    × ((asking fresh_device 0x012345 Access.Read).from ≡ Place.Nowhere)
    × ((step two_words running fresh_bill (shift (virtual 0x012345))).from ≡ Place.OnChip 0)
unfolding request_of shift_from refuses pick ◌and◌ ◌or◌ in_range registers_ok entry_ok bank_ok all_from memories_ok memory_ok apart money_ok every figure_ok le lt
    eq of_bits of_fields odd count_trailing_zeros lacks decided looked_from word_matches kind_of walk_from first_at upper joined read_in place_in place_within lies_in
    word_of first_of by_found by_access
walk_from_lem = (refl, refl, refl, refl, refl)

-- the same word four bytes further into a memory that starts four bytes earlier
abbrev at_start : Lent
at_start = lent (0x02 ∷ 0x08 ∷ 0x20 ∷ 0x11 ∷ []) 0x80 [] 0

abbrev further : Lent
further = lent (0 ∷ 0 ∷ 0 ∷ 0 ∷ 0x02 ∷ 0x08 ∷ 0x20 ∷ 0x11 ∷ []) 0x7c [] 0

-- on and walking from base 80
abbrev based : Device
based = set_registers fresh_device (with_base (with_control fresh_registers 7) 0x80)

fails : (s t : Bool) → t ≡ false → (s and t) ≡ false
unfolding ◌and◌
fails true t e = e
fails false t e = refl

-- no memory holds an address behind its end
behind : (b n a : ℕ) → b + n < a + 4 → lies_in b n a ≡ false
unfolding lies_in
behind b n a h = fails (leb b a) (leb (a + 4) (b + n)) (lt-leb (a + 4) (b + n) h)

read_behind : (m : Lent) (a : ℕ) → m.onbase + length m.on < a + 4 → m.extbase + length m.ext < a + 4 → read_in m a ≡ None
unfolding read_in place_in place_within
read_behind m a h k =
    ap (λ (p : Place). read_at (word_of (part_at m p)) p)
    (pick_by (λ (p : Place). p ≡ Place.Nowhere) (lent_ok m) _ _ (λ _. pick_no _ _ _ (behind _ _ a h) ∙ pick_no _ _ _ (behind _ _ a k)) (λ _. refl))

-- the two are walked alike but for the offset, and come from different places
alike_further : AlikeBut memory_of at_start further based
unfolding memories_ok memory_ok apart ◌and◌ ◌or◌ first_at upper walk_from read_in place_in place_within lies_in word_of first_of pick
alike_further = record { refused = refl; walks = λ va. by va.0 (va.0 / 2 ^ 20 % 16) }
  where
    by : (v i : ℕ) → moved_walked memory_of (walk_from (read_in at_start) first_of v (0x80 + 4 * i)) ≡ moved_walked memory_of (walk_from (read_in further) first_of v (0x80 + 4 * i))
    by v zero = refl
    by v (suc i) =
        ap (λ (r : Option (ℕ × Place)). moved_walked memory_of (after_first (read_in at_start) first_of v (0x80 + 4 * suc i) r)) (read_behind at_start (0x80 + 4 * suc i) (omega arith) (omega arith))
        ∙ ap (λ (r : Option (ℕ × Place)). moved_walked memory_of (after_first (read_in further) first_of v (0x80 + 4 * suc i) r)) (sym (read_behind further (0x80 + 4 * suc i) (omega arith) (omega arith)))

from_further :
    ((step at_start based fresh_bill (request (virtual 0x012345) Access.Read free)).from ≡ Place.OnChip 0)
    × ((step further based fresh_bill (request (virtual 0x012345) Access.Read free)).from ≡ Place.OnChip 4)
unfolding request_of refuses pick ◌and◌ ◌or◌ in_range registers_ok entry_ok bank_ok all_from memories_ok memory_ok apart money_ok every figure_ok le lt eq of_bits
    of_fields odd count_trailing_zeros lacks decided looked_from word_matches kind_of walk_from first_at upper joined read_in place_in place_within lies_in word_of
    first_of by_found by_access
from_further = (refl, refl)
