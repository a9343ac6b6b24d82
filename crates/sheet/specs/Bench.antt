-- The bench that the sheet's lines start from (01, "Bench sheet"): a list built in a memory, and the device that demand 3 starts.
use Rattle.std.specs.Prelude.{◌+◌, ◌*◌}
use Rattle.sheet.specs.Names.{ℕ, List, replicate, Lent, build_of, fresh_bill, Device, lock_at, write_of, base_a, room_a, prices_a}
use Rattle.sheet.specs.Names.{lent_alone, start_a}

-- what the builder leaves of a list in a memory that just holds list A
unfoldable pub built : List ℕ → List ℕ
built rs = (build_of rs base_a (replicate room_a 0)).memory

-- such bytes lent at the sheet's base
abbrev pub lent_a : List ℕ → Lent
lent_a bytes = lent_alone bytes base_a

-- the start, after a lock base and a victim are written to the lock register
abbrev pub locked_a : Lent → ℕ → ℕ → Device
locked_a m lock victim = (write_of m prices_a fresh_bill (start_a m) lock_at (lock * 1024 + victim * 16)).device
