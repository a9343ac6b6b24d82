-- Demand 2, the slots after each call that may walk (01, "The walk").
use Rattle.std.specs.Prelude.{Result, Ok, Err, Option, Some, None, ◌<◌, ◌≡◌, ◌≢◌}
use Rattle.walk.specs.declared.Unfound.{Unfound}
use Rattle.walk.specs.declared.Page.{Page}
use Rattle.conduct.specs.Names.{ℕ, true, length, pick, made_words, slots, slot_at, next_slot, next_victim, Answer, Fault, look, Call}
use Rattle.conduct.specs.Names.{Said, step, VirtualAddress, Words, Lent, Bill, Bank, Device}
use Rattle.conduct.specs.Refused.{Accepted}
use Rattle.conduct.specs.Attempted.{Attempted, nothing, attempt, prefetch, attempted, AttemptedAt, call_walks, walks_for}

-- a walk that finds a page fills a slot with it, one that finds none fills nothing
abbrev pub page_fill : VirtualAddress → Result Page Unfound → Option Words
page_fill va (Ok p) = Some (made_words p.kind p.frame p.access va)
page_fill va (Err Unfound.NoPage) = None
page_fill va (Err Unfound.Missing) = None

-- what is filled for an address: nothing where it is not walked for
unfoldable pub fill_for : Lent → Device → VirtualAddress → Option Words
fill_for m d va = pick (walks_for d va) (page_fill va (look m d va).found) None

-- what is filled for what a call asks
abbrev pub fill_asked : Lent → Device → Attempted → Option Words
fill_asked m d nothing = None
fill_asked m d (attempt again va a) = fill_for m d va
fill_asked m d (prefetch va) = fill_for m d va

-- no call that may walk changes a slot below the lock base
abbrev pub LockedKept : Type 0
LockedKept =
    (m : Lent) (d : Device) (b : Bill) (c : Call) → call_walks c ≡ true
    → (j : ℕ) → j < d.bank.lock → slot_at (step m d b c).device.bank j ≡ slot_at d.bank j

-- exactly one slot, the larger of victim and lock base, has new words, and the victim moves on
pub record OneSlot (w : Words) (before after : Bank) : Type 0 where
  pub has : slot_at after (next_slot before.victim before.lock) ≡ w
  pub others : (j : ℕ) → j ≢ next_slot before.victim before.lock → slot_at after j ≡ slot_at before j
  pub lock : after.lock ≡ before.lock
  pub victim : after.victim ≡ next_victim (next_slot before.victim before.lock) before.lock

-- a fill of a slot changes that slot alone, no fill changes nothing
abbrev pub FilledBy : Option Words → Bank → Bank → Type 0
FilledBy None before after = after ≡ before
FilledBy (Some w) before after = OneSlot w before after

-- what the type of a bank says: each lane has a word for each slot
abbrev pub LanesFit : Bank → Type 0
LanesFit b = (length b.cam ≡ slots) × (length b.ram ≡ slots)

-- a call that may walk, and is not refused, fills one slot with the page that the plain walk finds, and nothing where
-- it finds none or does not walk, or is a shift report
abbrev pub OneSlotFilled : Type 0
OneSlotFilled =
    (m : Lent) (d : Device) (b : Bill) (c : Call) → LanesFit d.bank → call_walks c ≡ true → Accepted m d b c
    → FilledBy (fill_asked m d (attempted d c)) d.bank (step m d b c).device.bank

-- where the plain walk finds no page for what a call asks, neither a slot nor the victim changes
abbrev pub NoPageNoFill : Type 0
NoPageNoFill =
    (m : Lent) (d : Device) (b : Bill) (c : Call) (va : VirtualAddress) → AttemptedAt va (attempted d c) → (look m d va).found ≡ Err Unfound.NoPage
    → (step m d b c).device.bank ≡ d.bank

-- a translation fault is never cached: no call that answers one changes the slots
abbrev pub FaultNotCached : Type 0
FaultNotCached =
    (m : Lent) (d : Device) (b : Bill) (c : Call) → (step m d b c).said ≡ Said.Answered (Answer.Fault Fault.Translation)
    → (step m d b c).device.bank ≡ d.bank
