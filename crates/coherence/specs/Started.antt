-- The start of a session: a fresh device, the base set to its two halves, on and walking (01, "Registers", "Bench
-- sheet").
use Rattle.std.specs.Prelude.{◌+◌, ◌*◌, ◌/◌, ◌%◌, ◌^◌, ◌<◌, ◌≡◌, ◌∷◌}
use Rattle.coherence.specs.Names.{ℕ, List, [], Lent, Bill, Prices, Device, fresh_device, control_at}
use Rattle.coherence.specs.Names.{base_high_at, base_low_at, write}
use Rattle.coherence.specs.Sessions.{BilledCall, after, started}

-- the three writes: the halves of the base, and control
abbrev pub sets_high : ℕ → Prices → Bill → BilledCall
sets_high base p b = (b, write base_high_at (base / 65536) p)

abbrev pub sets_low : ℕ → Prices → Bill → BilledCall
sets_low base p b = (b, write base_low_at (base % 65536) p)

abbrev pub sets_control : ℕ → Prices → Bill → BilledCall
sets_control v p b = (b, write control_at v p)

-- fresh from reset: base high, base low, then control
abbrev pub start : Lent → ℕ → ℕ → Prices → Bill → Device
start m base v p b = after m fresh_device (sets_high base p b ∷ sets_low base p b ∷ sets_control v p b ∷ [])

-- three things in each of their orders
abbrev pub orders : {A : Type 0} → A → A → A → List (List A)
orders x y z =
    (x ∷ y ∷ z ∷ []) ∷ (x ∷ z ∷ y ∷ []) ∷ (y ∷ x ∷ z ∷ []) ∷ (y ∷ z ∷ x ∷ []) ∷ (z ∷ x ∷ y ∷ []) ∷ (z ∷ y ∷ x ∷ []) ∷ []

-- each of some lists of calls makes this device of a fresh one
abbrev pub Leaves : Lent → Device → List (List BilledCall) → Type 0
Leaves m d [] = Unit {0}
Leaves m d (cs ∷ rest) = (after m fresh_device cs ≡ d) × Leaves m d rest

-- a value for control with bits 2, 1 and 0 set: walking, on, and no reset
abbrev pub TurnsOn : ℕ → Type 0
TurnsOn v = v % 8 ≡ 7

-- what control keeps of it: these bits and burst
abbrev pub start_control : ℕ → ℕ
start_control v = v / 32 % 2 * 32 + 7

-- in any order the three writes leave the fresh device, but for control and base
abbrev pub StartedInAnyOrder : Type 0
StartedInAnyOrder =
    (m : Lent) (base v : ℕ) (p : Prices) (b : Bill) → base < 2 ^ 32 → base % 128 ≡ 0 → TurnsOn v
    → Leaves m (started (start_control v) base) (orders (sets_high base p b) (sets_low base p b) (sets_control v p b))
