-- A call of a run is its plan, performed; it finds and leaves a device in range, or out of range. Assumes nothing.
use Rattle.std.proofs.Common.{Some, None}
use Rattle.std.proofs.Common.{Option}
use Rattle.run.specs.Names.{◌≡◌, Bool, true, ℕ, List, pick, Lent, Meters, Prices, Bill, Bank, Stall, Registers, command_of, Plan, Done, Call, stepped}
use Rattle.run.proofs.Names.{refl, sym, ◌∙◌, ap, ◌<◌, and_right, lent_ok, money_ok, Fit, performed, BytesFit, call_at, is_good, parts_ok, plan_of}
use Rattle.run.proofs.Names.{bench_of, bench_done}
use mathlib.Core.Bool.{false, false≢true}
use borrow.Author.Tests.{ltb-true}
use Rattle.page.proofs.Picks.{pick_by}
use Rattle.unit.specs.Machine
use Rattle.unit.specs.declared.Device.{Device}
use Rattle.unit.proofs.Fitting.{request_fits, write_fits, read_fits, drop_fits, shift_fits}
use Rattle.unit.proofs.Planned.{request-done, write_done, read_done, drop-done, shift-done}
use Rattle.conduct.proofs.Ranged.{range-kept}
use Rattle.calls.specs.Forms.{write_by, read_by, request_by, drop_by, report_by}
use Rattle.calls.specs.Kinds.{call_by, call_from}
use Rattle.calls.specs.Records.{call_of}

-- a value of a register write has 16 bits
abbrev pub Narrow : Option Call → Type 0
Narrow (Some (Call.Write o v)) = v < 65536
Narrow (Some (Call.Read o)) = Unit {0}
Narrow (Some (Call.Request va a)) = Unit {0}
Narrow (Some Call.Drop) = Unit {0}
Narrow (Some (Call.Shift va)) = Unit {0}
Narrow None = Unit {0}

call_narrow : (k x a v : ℕ) → Narrow (call_by k x a v)
unfolding call_by write_by read_by request_by drop_by report_by
call_narrow k x a v =
    pick_by Narrow _ _ _ (λ _. pick_by Narrow _ _ _ (λ h. ltb-true v 65536 (and_right _ _ h)) (λ _. tt))
    (λ _. pick_by Narrow _ _ _ (λ _. pick_by Narrow _ _ _ (λ _. tt) (λ _. tt))
    (λ _. pick_by Narrow _ _ _ (λ _. pick_by Narrow _ _ _ (λ _. tt) (λ _. tt))
    (λ _. pick_by Narrow _ _ _ (λ _. pick_by Narrow _ _ _ (λ _. tt) (λ _. tt))
    (λ _. pick_by Narrow _ _ _ (λ _. pick_by Narrow _ _ _ (λ _. tt) (λ _. tt)) (λ _. tt)))))

pub narrow_at : (l : List ℕ) (at : ℕ) → Narrow (call_at l at)
unfolding call_at call_of call_from
narrow_at l at = pick_by Narrow _ _ _ (λ _. pick_by Narrow _ _ _ (λ _. call_narrow _ _ _ _) (λ _. tt)) (λ _. tt)

module _ (m : Lent) (p : Prices) (r : Registers) (k : Bank) (q : Option Stall) (b : Bill) where
  abbrev pub planned : Option Call → Plan
  planned c = plan_of (parts_ok r k q) (lent_ok m) (money_ok p b) r.control q c

  abbrev pub left_by : Option Call → Done
  left_by c = performed m p b r k q (planned c)

  abbrev device : Device
  device = record { registers = r; bank = k; pending = q }

  pub planned_stepped : (t : Meters) (c : Option Call) → is_good c ≡ true → bench_done t (left_by c) ≡ stepped m p (bench_of r k q b t) c
  planned_stepped t (Some (Call.Write o v)) g = ap (bench_done t) (write_done m p b device v o)
  planned_stepped t (Some (Call.Read o)) g = ap (bench_done t) (read_done m p b device o)
  planned_stepped t (Some (Call.Request va a)) g = ap (bench_done t) (request-done m p b device va a)
  planned_stepped t (Some Call.Drop) g = ap (bench_done t) (drop-done m p b device)
  planned_stepped t (Some (Call.Shift va)) g = ap (bench_done t) (shift-done m p b device va)
  planned_stepped t None g = absurd (false≢true g)

  pub planned_fits : (c : Option Call) → Fit r.control k.cam k.lock k.victim (planned c)
  planned_fits (Some (Call.Write o v)) = write_fits device _ _ (command_of o v)
  planned_fits (Some (Call.Read o)) = read_fits device _ o
  planned_fits (Some (Call.Request va a)) = request_fits device _ _ q va a
  planned_fits (Some Call.Drop) = drop_fits device _ q
  planned_fits (Some (Call.Shift va)) = shift_fits device _ _ va
  planned_fits None = tt

  abbrev after_ok : Done → Bool
  after_ok x = parts_ok x.registers x.bank x.pending

  -- where it is not in range, nothing changes
  refused-kept : (c : Option Call) (ok : Bool) → ok ≡ false → after_ok (performed m p b r k q (plan_of ok (lent_ok m) (money_ok p b) r.control q c)) ≡ parts_ok r k q
  unfolding pick
  refused-kept c true e = absurd (false≢true (sym e))
  refused-kept (Some (Call.Write o v)) false e = refl
  refused-kept (Some (Call.Read o)) false e = refl
  refused-kept (Some (Call.Request va a)) false e = refl
  refused-kept (Some Call.Drop) false e = refl
  refused-kept (Some (Call.Shift va)) false e = refl
  refused-kept None false e = refl

  ranged_kept : (c : Option Call) → is_good c ≡ true → Narrow c → BytesFit m → parts_ok r k q ≡ true → after_ok (left_by c) ≡ true
  ranged_kept (Some (Call.Write o v)) g w f h = ap after_ok (write_done m p b device v o) ∙ range-kept m device b (Machine.write o v p) f w h
  ranged_kept (Some (Call.Read o)) g w f h = ap after_ok (read_done m p b device o) ∙ range-kept m device b (Machine.read o) f tt h
  ranged_kept (Some (Call.Request va a)) g w f h = ap after_ok (request-done m p b device va a) ∙ range-kept m device b (Machine.request va a p) f tt h
  ranged_kept (Some Call.Drop) g w f h = ap after_ok (drop-done m p b device) ∙ range-kept m device b Machine.drop-fault f tt h
  ranged_kept (Some (Call.Shift va)) g w f h = ap after_ok (shift-done m p b device va) ∙ range-kept m device b (Machine.shift va) f tt h
  ranged_kept None g w f h = absurd (false≢true g)

  -- so whether it is in range stays as it was
  pub range_same : (c : Option Call) → is_good c ≡ true → Narrow c → BytesFit m → after_ok (left_by c) ≡ parts_ok r k q
  range_same c g w f = by (parts_ok r k q) refl
    where
      by : (ok : Bool) → parts_ok r k q ≡ ok → after_ok (left_by c) ≡ parts_ok r k q
      by true e = ranged_kept c g w f e ∙ sym e
      by false e = refused-kept c (parts_ok r k q) e
