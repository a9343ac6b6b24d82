-- A bench from a handed-in state: register images and slots as they stand; and prices of a kind.
use Rattle.std.specs.Prelude.{Option}
use Rattle.std.specs.Prelude.{Some, None}
use Rattle.std.specs.Prelude.{◌+◌, ◌*◌, ◌∷◌}
use Rattle.state.specs.Names.{ℕ, zero, suc, Bool, List, [], eqb, leb, length, get_or, pick, ◌and◌, ◌or◌, physical, Meters, Bill}
use Rattle.state.specs.Names.{Side, Price, Prices, Bank, slots, Entry, Registers, Device, Bench, Float, swapped, word_at, low_at, high_at}
use Rattle.state.specs.Names.{ltb, virtual, Fault, Stall, stall, access_of}
use Rattle.state.specs.Parts.{no_row}
use Rattle.state.specs.Layout.{state_size, lock_offset, staged_offset, copied_offset, slots_offset, pending_offset, address_offset, meters_offset, rows_offset}

-- as many bits as a device holds, or the greatest number of them where it is more
unfoldable pub narrowed : ℕ → ℕ
narrowed x = pick (ltb x 256) x 255

-- lock base and victim
abbrev pub lock_taken : List ℕ → ℕ
lock_taken s = narrowed (low_at s lock_offset)

abbrev pub victim_taken : List ℕ → ℕ
victim_taken s = narrowed (high_at s lock_offset)

-- a pending fault by its status
unfoldable pub pending_of : ℕ → ℕ → ℕ → Option Stall
pending_of status access address =
    pick (eqb status 1) (Some (stall Fault.Translation (virtual address) (access_of access)))
    (pick (eqb status 2) (Some (stall Fault.Miss (virtual address) (access_of access)))
    (pick (eqb status 4) (Some (stall Fault.Permission (virtual address) (access_of access)))
    (pick (eqb status 8) (Some (stall Fault.Prefetch (virtual address) (access_of access))) None)))

-- the pending statuses
abbrev pub is_status : ℕ → Bool
is_status x = eqb x 0 or eqb x 1 or eqb x 2 or eqb x 4 or eqb x 8

-- the bytes are a state: a pending access and status, the two bytes after them zero
unfoldable pub is_state : List ℕ → Bool
is_state s =
    eqb (length s) state_size
    and leb (get_or s (pending_offset + 1) 0) 1
    and eqb (get_or s (pending_offset + 2) 0) 0
    and eqb (get_or s (pending_offset + 3) 0) 0
    and is_status (get_or s pending_offset 0)

abbrev pub entry_at : List ℕ → ℕ → Entry
entry_at s at = record { camhi = low_at s at; camlo = high_at s at; ramhi = low_at s (at + 4); ramlo = high_at s (at + 4) }

abbrev pub registers_in : List ℕ → Registers
registers_in s = record {
  control = high_at s 0;
  base = physical (word_at s 4);
  prefetch = low_at s 0;
  staged = entry_at s staged_offset;
  copied = entry_at s copied_offset;
}

-- one word of each of the n slots from slot i on
unfoldable pub lane_from : List ℕ → ℕ → ℕ → ℕ → List ℕ
lane_from s at i zero = []
lane_from s at i (suc n) = swapped (word_at s (at + 8 * i)) ∷ lane_from s at (i + 1) n

abbrev pub bank_in : List ℕ → Bank
bank_in s = record {
  cam = lane_from s slots_offset 0 slots;
  ram = lane_from s (slots_offset + 4) 0 slots;
  lock = narrowed (low_at s lock_offset);
  victim = narrowed (high_at s lock_offset);
}

abbrev pub meters_in : List ℕ → Meters
meters_in s = record { fresh = word_at s meters_offset; retries = word_at s (meters_offset + 4); words = word_at s (meters_offset + 8) }

unfoldable pub side_of : ℕ → Side
side_of row = record { last = pick (eqb row no_row) None (Some row) }

-- the state's own figures are not looked at
abbrev pub bill_in : List ℕ → Float → Float → Bill
bill_in s total misses = record { total = total; misses = misses; onchip = side_of (word_at s rows_offset); external = side_of (word_at s (rows_offset + 4)) }

abbrev pub device_in : List ℕ → Device
device_in s = record {
  registers = registers_in s;
  bank = bank_in s;
  pending = pending_of (get_or s pending_offset 0) (get_or s (pending_offset + 1) 0) (word_at s address_offset);
}

abbrev pub bench_in : List ℕ → Float → Float → Bench
bench_in s total misses = record { device = device_in s; bill = bill_in s total misses; meters = meters_in s }

-- lock base and victim as they were handed in
abbrev pub lock_in : List ℕ → ℕ
lock_in s = word_at s lock_offset

-- a price of a kind: 0 flat, 1 by the row
unfoldable pub price_of : ℕ → Float → Float → Price
price_of kind a b = pick (eqb kind 0) (Price.Flat a) (Price.Row a b)

abbrev pub prices_of : ℕ → Float → Float → ℕ → Float → Float → Prices
prices_of onkind ona onb extkind exta extb = record { onchip = price_of onkind ona onb; external = price_of extkind exta extb }
