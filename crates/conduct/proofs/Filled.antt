-- Demand 2, the slots: one fill, at the lock base or above it, of the page that the plain walk finds. Assumes nothing.
use Rattle.page.specs.declared.Words.{Words}
use Rattle.std.proofs.Common.{Err, Option, Some, None}
use Rattle.walk.specs.declared.Unfound.{Unfound}
use Rattle.conduct.specs.Names.{◌≡◌, Bool, true, false, ℕ, ◌<◌, slots, slot_at, next_slot, page_at, in_range, look, may_walk, request_refusals}
use Rattle.conduct.specs.Names.{write_refusals, Call, request, write, read, drop-fault, shift, step, VirtualAddress, Lent, Bill, Bank}
use Rattle.conduct.specs.Names.{Stall, Device, Outcome}
use Rattle.conduct.proofs.Names.{refl, sym, ◌∙◌, ap, subst, true≢false, false≢true, pick_by, and_left, and_right, or_yes, or_no, entry_filled}
use Rattle.conduct.proofs.Names.{fill_lock, in_range_lem, registers_ok, pending_ok, command_of, prefetch_decided, refused_with, decided_by, attempt_of}
use Rattle.conduct.proofs.Names.{request_of, carried, write_of, said_refused, Accepted, Attempted, nothing, attempt, prefetch, write_attempted}
use Rattle.conduct.proofs.Names.{attempted, page_fill, fill_for, LanesFit, refuses_by}
use Rattle.bank.proofs.Fills.{fill_keeps, fill_has, fill_keeps_locked, fill_victim}
use Rattle.bank.proofs.Ranges.{next_slot-lt}
use Rattle.conduct.specs.Attempted.{AttemptedAt, call_walks}
use Rattle.conduct.specs.Filled.{fill_asked, LockedKept, FilledBy, OneSlotFilled, NoPageNoFill}
use Rattle.conduct.proofs.Writes.{write_by_lem}
use Rattle.conduct.proofs.Refused.{nothing_changes, accepted-in_range}
use Rattle.conduct.proofs.Calls.{attempt-bank, prefetch-bank, accepted-request, accepted-write}

-- no fill touches a slot below the lock base
fill_locked : (b : Bank) (f : Option Words) (j : ℕ) → j < b.lock → slot_at (entry_filled b f) j ≡ slot_at b j
fill_locked b None j h = refl
fill_locked b (Some w) j h = fill_keeps_locked b w j h

pub locked-kept : LockedKept
unfolding request_of write_of
locked-kept m d b (request va a p) e j h =
    refuses_by (refused_with d b) (attempt_of m p b false d va a) (λ (x : Outcome). slot_at x.device.bank j ≡ slot_at d.bank j) (request_refusals m p b d va)
    (λ k. refl) (λ _. fill_locked d.bank (decided_by (look m d va) d va a).fill j h)
locked-kept m d b (write o v p) e j h =
    refuses_by (refused_with d b) (carried m p b d (command_of o v)) (λ (x : Outcome). slot_at x.device.bank j ≡ slot_at d.bank j) (write_refusals m p b d o v)
    (λ k. refl)
    (write_by_lem m p b d v (λ (q : Attempted) (x : Outcome). slot_at x.device.bank j ≡ slot_at d.bank j) refl refl
    (λ va a _. fill_locked d.bank (decided_by (look m d va) d va a).fill j h)
    (λ _. fill_locked d.bank (prefetch_decided (look m d (page_at v)) d.bank.cam (page_at v)).fill j h)
    o (λ n. absurd (true≢false (sym e ∙ n))))
locked-kept m d b (read o) e j h = absurd (false≢true e)
locked-kept m d b drop-fault e j h = absurd (false≢true e)
locked-kept m d b (shift va) e j h = refl

-- a call that may walk, and is not refused, leaves the bank filled with what it asks
bank-after : (m : Lent) (d : Device) (b : Bill) (c : Call) → call_walks c ≡ true → Accepted m d b c → (step m d b c).device.bank ≡ entry_filled d.bank (fill_asked m d (attempted d c))
bank-after m d b (request va a p) e =
    accepted-request m p b d (λ (x : Outcome). x.device.bank ≡ entry_filled d.bank (fill_for m d va)) va a
    (λ c. attempt-bank m p b d false va a c.1.1.1.1.1.0)
bank-after m d b (write o v p) e =
    accepted-write m p b d (λ (x : Outcome). x.device.bank ≡ entry_filled d.bank (fill_asked m d (attempted d (write o v p)))) o v
    (write_by_lem m p b d v (λ (q : Attempted) (x : Outcome). x.device.bank ≡ entry_filled d.bank (fill_asked m d q)) refl refl
    (attempt-bank m p b d true) (prefetch-bank m p b d v) o (λ n. absurd (true≢false (sym e ∙ n))))
bank-after m d b (read o) e = absurd (false≢true e)
bank-after m d b drop-fault e = absurd (false≢true e)
bank-after m d b (shift va) e = λ _. refl

filled_by : (b : Bank) (f : Option Words) → LanesFit b → next_slot b.victim b.lock < slots → FilledBy f b (entry_filled b f)
filled_by b None l h = refl
filled_by b (Some w) l h = record {
  has = fill_has b w (subst (λ (n : ℕ). next_slot b.victim b.lock < n) (sym l.0) h) (subst (λ (n : ℕ). next_slot b.victim b.lock < n) (sym l.1) h);
  others = fill_keeps b w;
  lock = fill_lock b w;
  victim = fill_victim b w;
}

pub one-slot-filled : OneSlotFilled
unfolding in_range
one-slot-filled m d b c l e h =
    let r = in_range_lem d.bank (and_right (pending_ok d.pending) _ (and_right (registers_ok d.registers) _ (accepted-in_range m d b c h))) in
    subst (FilledBy (fill_asked m d (attempted d c)) d.bank) (sym (bank-after m d b c e h))
    (filled_by d.bank (fill_asked m d (attempted d c)) l (next_slot-lt slots d.bank.victim d.bank.lock r.victim r.lock))

-- where no page is found nothing is filled
none_found : (m : Lent) (d : Device) (va : VirtualAddress) → (look m d va).found ≡ Err Unfound.NoPage → fill_for m d va ≡ None
unfolding fill_for
none_found m d va e = pick_by (λ (f : Option Words). f ≡ None) _ _ _ (λ _. ap (page_fill va) e) (λ _. refl)

none-asked : (m : Lent) (d : Device) (q : Attempted) (va : VirtualAddress) → AttemptedAt va q → (look m d va).found ≡ Err Unfound.NoPage → fill_asked m d q ≡ None
none-asked m d nothing va e h = absurd e
none-asked m d (attempt again x a) va e h = none_found m d x (ap (λ (y : VirtualAddress). (look m d y).found) e ∙ h)
none-asked m d (prefetch x) va e h = none_found m d x (ap (λ (y : VirtualAddress). (look m d y).found) e ∙ h)

-- only a call that may walk asks for an address
write_fill : (q : Option Stall) (o v : ℕ) (va : VirtualAddress) → AttemptedAt va (write_attempted q o v) → may_walk o ≡ true
unfolding write_attempted
write_fill q o v va =
    pick_by Fills _ _ _ (λ e _. or_yes _ _ e)
    (λ e. pick_by Fills _ _ _ (λ f _. or_no _ _ e ∙ or_yes _ _ (and_left _ _ f)) (λ _ n. absurd n))
  where
    Fills : Attempted → Type 0
    Fills x = AttemptedAt va x → may_walk o ≡ true

asks_fill : (d : Device) (c : Call) (va : VirtualAddress) → AttemptedAt va (attempted d c) → call_walks c ≡ true
asks_fill d (request x a p) va e = refl
asks_fill d (write o v p) va e = write_fill d.pending o v va e
asks_fill d (read o) va e = absurd e
asks_fill d drop-fault va e = absurd e
asks_fill d (shift x) va e = absurd e

pub no_page_no_fill : NoPageNoFill
no_page_no_fill m d b c va e h = by (said_refused (step m d b c).said) refl
  where
    by : (t : Bool) → said_refused (step m d b c).said ≡ t → (step m d b c).device.bank ≡ d.bank
    by true r = ap (λ (x : Device). x.bank) (nothing_changes m d b c r).device
    by false r = bank-after m d b c (asks_fill d c va e) r ∙ ap (entry_filled d.bank) (none-asked m d (attempted d c) va e h)
