-- What the slots hold never shows: the plain answer, and slots that agree with it (01, demand 3).
use Rattle.std.specs.Prelude.{Option, Some, None, ◌<◌, ◌≡◌}
use Rattle.coherence.specs.Names.{ℕ, true, List, get_or, length, word_matches, word_access, word_address, limit, slots, is_on, is_walking}
use Rattle.coherence.specs.Names.{Stall, Look, Access, VirtualAddress, Answer, by_access, by_walk, Device}

-- what the walk alone answers
abbrev pub plain : Look → VirtualAddress → Access → Answer
plain look va a = (by_walk va a (look va)).answer

-- a slot answers, at every address that it matches, what the walk answers
abbrev pub Agrees : Look → ℕ → ℕ → Type 0
Agrees look cam ram =
    (va : VirtualAddress) → word_matches cam va ≡ true → (a : Access) → by_access (word_access ram) (word_address cam ram va) a ≡ plain look va a

-- the lanes of 32 slots, each of which agrees
pub record Lanes (look : Look) (cam ram : List ℕ) : Type 0 where
  pub cams : length cam ≡ slots
  pub rams : length ram ≡ slots
  pub agree : (i : ℕ) → Agrees look (get_or cam i 0) (get_or ram i 0)

-- a pending fault is at an address below 2^24: refusal 1 lets no other by, and a prefetch names no other
abbrev pub Below : Option Stall → Type 0
Below None = Unit {0}
Below (Some s) = s.at.0 < limit

-- what a session keeps, part by part: on, walking, the base fixed, every slot in agreement
pub record Kept (look : Look) (base control at : ℕ) (cam ram : List ℕ) (pending : Option Stall) : Type 0 where
  pub on : is_on control ≡ true
  pub walking : is_walking control ≡ true
  pub base-is : at ≡ base
  pub lanes : Lanes look cam ram
  pub below : Below pending

-- a device in such a session
abbrev pub Coherent : Look → ℕ → Device → Type 0
Coherent look base d = Kept look base d.registers.control d.registers.base.0 d.bank.cam d.bank.ram d.pending
