-- What changes the slots: fill, load, flushes, lock (01, "The walk", "Registers").
use Rattle.std.specs.Prelude.{Option, Some, None}
use Rattle.bank.specs.Names.{ℕ, List, get_or, set, VirtualAddress, Words, flushed_all, flushed_entry, Bank}
unfoldable pub use Rattle.bank.specs.Victim.{next_slot, next_victim}

-- the words in slot i
abbrev pub stored_at : Bank → ℕ → Words → Bank
stored_at b i w = record { cam = set b.cam i w.cam; ram = set b.ram i w.ram; lock = b.lock; victim = b.victim }

-- a bank with one part set
abbrev pub with_cams : Bank → List ℕ → Bank
with_cams b cam = record { cam = cam; ram = b.ram; lock = b.lock; victim = b.victim }

abbrev pub locked_at : Bank → ℕ → ℕ → Bank
locked_at b lock victim = record { cam = b.cam; ram = b.ram; lock = lock; victim = victim }

-- a fill of slot i
abbrev pub filled_at : Bank → Words → ℕ → Bank
filled_at b w i = locked_at (stored_at b i w) b.lock (next_victim i b.lock)

unfoldable pub filled : Bank → Words → Bank
filled b w = filled_at b w (next_slot b.victim b.lock)

abbrev pub entry_filled : Bank → Option Words → Bank
entry_filled b None = b
entry_filled b (Some w) = filled b w

-- load stores in the victim slot and copy reads it; the victim stays
abbrev pub loaded : Bank → Words → Bank
loaded b w = stored_at b b.victim w

abbrev pub copied : Bank → Words
copied b = record { cam = get_or b.cam b.victim 0; ram = get_or b.ram b.victim 0 }

-- a flush is of the CAM lane
abbrev pub bank_flushed : Bank → Bank
bank_flushed b = with_cams b (flushed_all b.cam)

abbrev pub bank_flushed_at : Bank → VirtualAddress → Bank
bank_flushed_at b va = with_cams b (flushed_entry va b.cam)
