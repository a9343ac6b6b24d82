-- Which slot a fill takes (01, "The walk").
use Rattle.std.specs.Prelude.{◌+◌}
use Rattle.bank.specs.Names.{ℕ, ltb, pick, slots}

-- a fill takes the larger of victim and lock base
unfoldable pub next_slot : ℕ → ℕ → ℕ
next_slot victim lock = pick (ltb victim lock) lock victim

-- after it the victim is the slot after, or the lock base after the last slot
unfoldable pub next_victim : ℕ → ℕ → ℕ
next_victim slot lock = pick (ltb (slot + 1) slots) (slot + 1) lock
