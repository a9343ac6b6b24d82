-- Demand 1: from a device in range every call hands back one in range. Assumes nothing.
use Rattle.std.proofs.Common.{Result, Ok, Err, Option, Some, None}
use Rattle.walk.specs.declared.Unfound.{Unfound}
use Rattle.walk.specs.declared.Page.{Page}
use Rattle.conduct.specs.Names.{◌≡◌, Bool, true, false, List, ℕ, ◌%◌, ◌^◌, ◌<◌, ◌and◌, looked_up, limit, page_at, fresh_device, in_range, cleared}
use Rattle.conduct.specs.Names.{look, request_refusals, write_refusals, read_refusals, drop_refusals, request, write, read, drop-fault, shift}
use Rattle.conduct.specs.Names.{Access, VirtualAddress, Lent, Reads, Walked, Bill, Prices, Stall, Answer, Decision}
use Rattle.conduct.specs.Names.{Command, Device, Outcome, Told}
use Rattle.conduct.proofs.Names.{refl, ◌∙◌, arith, lt-ltb, leb-false, pick_by, and_yes, and_left, and_right, all_from, bank_ok, registers_ok}
use Rattle.conduct.proofs.Names.{pending_ok, command_of, value_at, registers_in-range, by_found, by_matched, decided, settled, prefetch_found}
use Rattle.conduct.proofs.Names.{prefetch_matched, prefetch_decided, prefetch_kept, told, told_refused, refused_with, decided_by, attempt_of}
use Rattle.conduct.proofs.Names.{request_of, prefetched, retried, carried, write_of, read_of, drop_of, BytesFit, refuses_by}
use borrow.Author.Tests.{ltb-true}
use Rattle.lanes.proofs.Ranges.{made_cam_ok, made_ram_ok}
use Rattle.bank.proofs.Ranges.{fill_ok, entry_ok_lem}
use Rattle.registers.proofs.Ranges.{fresh_ok, with_prefetch_ok, set_ok, load_ok, copy_ok, tended_ok, CommandOk, command_ok}
use Rattle.unit.specs.Device.{applied}
use Rattle.conduct.specs.Refused.{RangeKept}
use Rattle.conduct.proofs.Frames.{FrameFits, walk_fits}

-- a device in range, by its parts
module _ (d : Device) where
  registers_ok_lem : in_range d ≡ true → registers_ok d.registers ≡ true
  unfolding in_range
  registers_ok_lem h = and_left _ _ h

  pending_ok_lem : in_range d ≡ true → pending_ok d.pending ≡ true
  unfolding in_range
  pending_ok_lem h = and_left _ _ (and_right (registers_ok d.registers) _ h)

  bank_ok_lem : in_range d ≡ true → bank_ok d.bank ≡ true
  unfolding in_range
  bank_ok_lem h = and_right (pending_ok d.pending) _ (and_right (registers_ok d.registers) _ h)

  ranged : registers_ok d.registers ≡ true → pending_ok d.pending ≡ true → bank_ok d.bank ≡ true → in_range d ≡ true
  unfolding in_range
  ranged r q b = and_yes _ _ r ∙ and_yes _ _ q ∙ b

fresh_in_range : in_range fresh_device ≡ true
unfolding bank_ok all_from ◌and◌
fresh_in_range = ranged fresh_device fresh_ok refl refl

-- what a decision fills is in range where the page is
page_ok : (f : Result Page Unfound) (va : VirtualAddress) → FrameFits f → va.0 < limit → (a : Access) (r : Reads) → fill_ok (by_found va a r f).fill
unfolding by_found
page_ok (Err Unfound.Missing) va g l a r = tt
page_ok (Err Unfound.NoPage) va g l a r = tt
page_ok (Ok p) va g l a r = and_yes _ _ (made_cam_ok p.kind va.0 l) ∙ made_ram_ok p.kind p.frame.0 p.access g

prefetch-page_ok : (f : Result Page Unfound) (va : VirtualAddress) → FrameFits f → va.0 < limit → (r : Reads) → fill_ok (prefetch_found va r f).fill
unfolding prefetch_found
prefetch-page_ok (Err Unfound.Missing) va g l r = tt
prefetch-page_ok (Err Unfound.NoPage) va g l r = tt
prefetch-page_ok (Ok p) va g l r = and_yes _ _ (made_cam_ok p.kind va.0 l) ∙ made_ram_ok p.kind p.frame.0 p.access g

module _ (w : Walked) (va : VirtualAddress) (g : FrameFits w.found) (l : va.0 < limit) where
  abbrev FillOk : Decision → Type 0
  FillOk x = fill_ok x.fill

  matched_ok : (c : ℕ) (cam ram : List ℕ) (a : Access) (x : Option ℕ) → FillOk (by_matched w c cam ram va a x)
  matched_ok c cam ram a (Some i) = tt
  matched_ok c cam ram a None = pick_by FillOk _ _ _ (λ _. page_ok w.found va g l a w.reads) (λ _. tt)

  decided_ok : (c : ℕ) (cam ram : List ℕ) (a : Access) → FillOk (decided w c cam ram va a)
  unfolding decided
  decided_ok c cam ram a = pick_by FillOk _ _ _ (λ _. matched_ok c cam ram a (looked_up cam va)) (λ _. tt)

  prefetch_matched_ok : (x : Option ℕ) → FillOk (prefetch_matched w va x)
  prefetch_matched_ok (Some i) = tt
  prefetch_matched_ok None = prefetch-page_ok w.found va g l w.reads

  prefetch_ok : (cam : List ℕ) → FillOk (prefetch_decided w cam va)
  unfolding prefetch_decided
  prefetch_ok cam = prefetch_matched_ok (looked_up cam va)

-- a fault at an address in range is pending in range
settled_ok : (va : VirtualAddress) (a : Access) (q : Option Stall) (r : Answer) → va.0 < limit → pending_ok q ≡ true → pending_ok (settled va a q r) ≡ true
settled_ok va a q (Answer.Address x) l h = refl
settled_ok va a q (Answer.Fault k) l h = lt-ltb va.0 limit l
settled_ok va a q (Answer.Value x) l h = h
settled_ok va a q Answer.Done l h = h
settled_ok va a q (Answer.Refused k) l h = h

kept_ok : (v old : ℕ) (r : Answer) → v < 2 ^ 14 → old < 2 ^ 14 → prefetch_kept v old r < 2 ^ 14
kept_ok v old (Answer.Refused k) g h = h
kept_ok v old (Answer.Address x) g h = g
kept_ok v old (Answer.Fault k) g h = g
kept_ok v old (Answer.Value x) g h = g
kept_ok v old Answer.Done g h = g

page_at-lt : (v : ℕ) → (page_at v).0 < limit
page_at-lt v = omega arith

module _ (m : Lent) (f : BytesFit m) (p : Prices) (b : Bill) (d : Device) (h : in_range d ≡ true) where
  abbrev Ranged : Outcome → Type 0
  Ranged x = in_range x.device ≡ true

  applied_ok : (x : Decision) (va : VirtualAddress) (a : Access) → fill_ok x.fill → va.0 < limit → in_range (applied d x.fill x.answer va a) ≡ true
  applied_ok x va a g l =
      ranged _ (registers_ok_lem d h) (settled_ok va a d.pending x.answer l (pending_ok_lem d h)) (entry_ok_lem d.bank (bank_ok_lem d h) x.fill g)

  cleared_ok : in_range (cleared d) ≡ true
  cleared_ok = ranged _ (registers_ok_lem d h) refl (bank_ok_lem d h)

  attempt_ok : (again : Bool) (va : VirtualAddress) (a : Access) → va.0 < limit → Ranged (attempt_of m p b again d va a)
  attempt_ok again va a l =
      applied_ok (decided_by (look m d va) d va a) va a
      (decided_ok (look m d va) va (walk_fits m f _ _) l d.registers.control d.bank.cam d.bank.ram a) l

  prefetched_ok : (v : ℕ) → Ranged (prefetched m p b d v)
  prefetched_ok v =
      let x = prefetch_decided (look m d (page_at v)) d.bank.cam (page_at v) in
      let l = page_at-lt v in
      let r = registers_in-range d.registers (registers_ok_lem d h) in
      ranged _
      (with_prefetch_ok d.registers (registers_ok_lem d h) _ (kept_ok (v % 2 ^ 14) d.registers.prefetch x.answer (omega arith) r.prefetch))
      (settled_ok (page_at v) Access.Read d.pending x.answer l (pending_ok_lem d h))
      (entry_ok_lem d.bank (bank_ok_lem d h) x.fill (prefetch_ok (look m d (page_at v)) (page_at v) (walk_fits m f _ _) l d.bank.cam))

  retried_ok : (q : Option Stall) → pending_ok q ≡ true → Ranged (retried m p b d q)
  retried_ok None g = h
  retried_ok (Some s) g = pick_by Ranged _ _ _ (λ _. cleared_ok) (λ _. attempt_ok true s.at s.access (ltb-true s.at.0 limit g))

  carried_ok : (c : Command) → CommandOk c → Ranged (carried m p b d c)
  carried_ok (Command.Refused k) g = h
  carried_ok Command.Nothing g = h
  carried_ok Command.Reset g = fresh_in_range
  carried_ok (Command.Set s) g = ranged _ (set_ok d.registers (registers_ok_lem d h) s g) (pending_ok_lem d h) (bank_ok_lem d h)
  carried_ok (Command.Tend t) g = ranged _ (registers_ok_lem d h) (pending_ok_lem d h) (tended_ok d.bank (bank_ok_lem d h) d.registers.staged t g)
  carried_ok Command.Load g = ranged _ (registers_ok_lem d h) (pending_ok_lem d h) (load_ok d.bank (bank_ok_lem d h) d.registers (registers_ok_lem d h))
  carried_ok Command.Copy g = ranged _ (copy_ok d.bank (bank_ok_lem d h) d.registers (registers_ok_lem d h)) (pending_ok_lem d h) (bank_ok_lem d h)
  carried_ok (Command.Prefetch v) g = prefetched_ok v
  carried_ok (Command.Acknowledge go) g = pick_by Ranged _ _ _ (λ _. retried_ok d.pending (pending_ok_lem d h)) (λ _. h)

pub range-kept : RangeKept
unfolding request_of write_of read_of drop_of
range-kept m d b (request va a p) f g h =
    refuses_by (refused_with d b) (attempt_of m p b false d va a) (λ (x : Outcome). in_range x.device ≡ true) (request_refusals m p b d va)
    (λ k. h) (λ c. attempt_ok m f p b d h false va a (leb-false limit va.0 c.1.0))
range-kept m d b (write o v p) f g h =
    refuses_by (refused_with d b) (carried m p b d (command_of o v)) (λ (x : Outcome). in_range x.device ≡ true) (write_refusals m p b d o v)
    (λ k. h) (λ _. carried_ok m f p b d h (command_of o v) (command_ok v g o))
range-kept m d b (read o) f g h =
    refuses_by (told_refused d) (told d (value_at o d.registers d.bank.lock d.bank.victim d.pending)) (λ (t : Told). in_range t.device ≡ true) (read_refusals d o)
    (λ k. h) (λ _. h)
range-kept m d b drop-fault f g h =
    refuses_by (told_refused d) (told (cleared d) Answer.Done) (λ (t : Told). in_range t.device ≡ true) (drop_refusals d)
    (λ k. h) (λ _. ranged _ (registers_ok_lem d h) refl (bank_ok_lem d h))
range-kept m d b (shift va) f g h = h
