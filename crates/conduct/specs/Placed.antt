-- Demand 2, where the last word of each call's walk comes from (02, P6).
use Rattle.std.specs.Prelude.{◌≡◌, ◌⊎◌}
use Rattle.conduct.specs.Names.{Bool, true, false, Lent, lent_ok, Place, Reads, nowhere, moved_walked, LastLies}
use Rattle.conduct.specs.Names.{look, Call, request, write, read, drop-fault, shift, Step, step, VirtualAddress, Bill, Device}
use Rattle.conduct.specs.Refused.{said_refused, Accepted}
use Rattle.conduct.specs.Attempted.{Attempted, nothing, attempt, prefetch, attempted, walks_for, reads_for}

-- the words that a call reads: those of the plain walk for what it asks, or of the shift report's own
abbrev pub reads_asked : Lent → Device → Attempted → Reads
reads_asked m d nothing = Reads.Nothing
reads_asked m d (attempt again va a) = reads_for m d va
reads_asked m d (prefetch va) = reads_for m d va

abbrev pub reads_of : Lent → Device → Call → Reads
reads_of m d (request va a p) = reads_asked m d (attempted d (request va a p))
reads_of m d (write o v p) = reads_asked m d (attempted d (write o v p))
reads_of m d (read o) = Reads.Nothing
reads_of m d drop-fault = Reads.Nothing
reads_of m d (shift va) = (look m d va).reads

-- whether it makes a walk: for what it asks, or always as a shift report
abbrev pub walks_asked : Device → Attempted → Bool
walks_asked d nothing = false
walks_asked d (attempt again va a) = walks_for d va
walks_asked d (prefetch va) = walks_for d va

abbrev pub walks_of : Device → Call → Bool
walks_of d (request va a p) = walks_asked d (attempted d (request va a p))
walks_of d (write o v p) = walks_asked d (attempted d (write o v p))
walks_of d (read o) = false
walks_of d drop-fault = false
walks_of d (shift va) = true

-- a call that is not refused comes from where the last word that it reads lies, and the four bytes there are that word
abbrev pub ComesFromLast : Type 0
ComesFromLast = (m : Lent) (d : Device) (b : Bill) (c : Call) → Accepted m d b c → LastLies m (reads_of m d c) (step m d b c).from

-- a call comes from nowhere exactly where it is refused or makes no walk
abbrev pub FromNowhere : Type 0
FromNowhere =
    (m : Lent) (d : Device) (b : Bill) (c : Call) →
    ((step m d b c).from ≡ Place.Nowhere → (said_refused (step m d b c).said ≡ true) ⊎ (walks_of d c ≡ false))
    × ((said_refused (step m d b c).said ≡ true) ⊎ (walks_of d c ≡ false) → (step m d b c).from ≡ Place.Nowhere)

-- a place without its offset: the memory alone
abbrev pub memory_of : Place → Place
memory_of (Place.OnChip k) = Place.OnChip 0
memory_of (Place.External k) = Place.External 0
memory_of Place.Nowhere = Place.Nowhere

-- two pairs of memories are refused alike, and walked alike for every address but for what a map of places leaves out
pub record AlikeBut (f : Place → Place) (m m' : Lent) (d : Device) : Type 0 where
  pub refused : lent_ok m ≡ lent_ok m'
  pub walks : (va : VirtualAddress) → moved_walked f (look m d va) ≡ moved_walked f (look m' d va)

-- a call answers, leaves and meters the same
pub record SameCall (s s' : Step) : Type 0 where
  pub device : s.device ≡ s'.device
  pub tally : s.tally ≡ s'.tally
  pub said : s.said ≡ s'.said

-- the place stands beside the rest, as before: addresses, faults, slots, registers and meters do not depend on where
-- a word lies, and the bill only on which memory holds it
pub record PlaceBeside : Type 0 where
  pub rest : (m m' : Lent) (d : Device) (b : Bill) (c : Call) → AlikeBut nowhere m m' d → SameCall (step m d b c) (step m' d b c)
  pub bill : (m m' : Lent) (d : Device) (b : Bill) (c : Call) → AlikeBut memory_of m m' d → (step m d b c).bill ≡ (step m' d b c).bill
