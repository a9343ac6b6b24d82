-- A device in range has what the plan of any call asks of its parts. Assumes nothing.
use Rattle.std.proofs.Common.{Option, Some, None}
use Rattle.unit.specs.Names.{◌≡◌, Bool, true, ℕ, limit, bank_ok, pending_ok, Plan, Access, VirtualAddress, Stall, Setting, Tending, Command, Device}
use Rattle.unit.proofs.Names.{◌<◌, arith, ltb-true, pick_by, and_left, and_right, request_plan, pending_plan, command_plan, write_plan, read_plan}
use Rattle.unit.proofs.Names.{drop_plan, shift_plan, Reason, in_range}
use borrow.Author.Tests.{leb-false}
use Rattle.plan.specs.Plans.{setting_plan, tend_plan, lent_refusal, prefetch_plan, acknowledge_plan}
use Rattle.perform.specs.Performed.{TriedOn, Fits}
use Rattle.unit.specs.Acts

module _ (d : Device) where
  abbrev Fitted : Plan → Type 0
  Fitted = Acts.Fitted d

  bank_ok_lem : in_range d ≡ true → bank_ok d.bank ≡ true
  unfolding in_range
  bank_ok_lem h = and_right _ _ (and_right _ _ h)

  pending_ok_lem : in_range d ≡ true → pending_ok d.pending ≡ true
  unfolding in_range
  pending_ok_lem h = and_left _ _ (and_right _ _ h)

  victim-lt : in_range d ≡ true → d.bank.victim < 32
  unfolding bank_ok
  victim-lt h = ltb-true _ _ (and_left _ _ (and_right _ _ (bank_ok_lem h)))

  fits : in_range d ≡ true → (e : Reason) (va : VirtualAddress) → TriedOn e d.registers.control → va.0 < limit
      → Fits d.registers.control d.bank.cam d.bank.lock d.bank.victim e va
  unfolding bank_ok
  fits h e va r v = record {
    ready = r;
    cams = and_left _ _ (and_right _ _ (and_right _ _ (bank_ok_lem h)));
    lock-lt = ltb-true _ _ (and_left _ _ (bank_ok_lem h));
    victim-lt = victim-lt h;
    virtual = v;
  }

  pub request_fits : (l o : Bool) (q : Option Stall) (va : VirtualAddress) (a : Access) → Fitted (request_plan (in_range d) l o q va a)
  request_fits l o q va a =
      pick_by Fitted _ _ _
      (λ h. pick_by Fitted _ _ _ (λ _. tt)
      (λ v. pick_by Fitted _ _ _
      (λ _. pick_by Fitted _ _ _
      (λ _. pick_by Fitted _ _ _ (λ _. fits h _ va tt (leb-false limit va.0 v)) (λ _. tt)) (λ _. tt)) (λ _. tt)))
      (λ _. tt)

  pending_fits : in_range d ≡ true → (q : Option Stall) → pending_ok q ≡ true → Fitted (pending_plan q)
  pending_fits h None e = tt
  pending_fits h (Some s) e = pick_by Fitted _ _ _ (λ _. tt) (λ _. fits h _ s.at tt (ltb-true s.at.0 limit e))

  setting_fits : (s : Setting) → Fitted (setting_plan s)
  setting_fits (Setting.Control v) = tt
  setting_fits (Setting.BaseHigh v) = tt
  setting_fits (Setting.BaseLow v) = tt
  setting_fits (Setting.CamHigh v) = tt
  setting_fits (Setting.CamLow v) = tt
  setting_fits (Setting.RamHigh v) = tt
  setting_fits (Setting.RamLow v) = tt

  tend_fits : (t : Tending) → Fitted (tend_plan t)
  tend_fits (Tending.Lock l v) = tt
  tend_fits Tending.Flush = tt
  tend_fits Tending.FlushEntry = tt

  -- by what is refused of what is lent
  prefetch_fits : in_range d ≡ true → (v : ℕ) (k : Option ℕ) → Fitted (prefetch_plan v k d.registers.control d.pending)
  prefetch_fits h v (Some k) = tt
  prefetch_fits h v None =
      pick_by Fitted _ _ _
      (λ _. pick_by Fitted _ _ _
      (λ _. pick_by Fitted _ _ _
      (λ on. pick_by Fitted _ _ _ (λ walking. fits h _ _ (on, walking) (omega arith)) (λ _. tt)) (λ _. tt)) (λ _. tt))
      (λ _. tt)

  acknowledge_fits : in_range d ≡ true → (go : Bool) (k : Option ℕ) → Fitted (acknowledge_plan go k d.pending)
  acknowledge_fits h go (Some k) = tt
  acknowledge_fits h go None = pick_by Fitted _ _ _ (λ _. pending_fits h d.pending (pending_ok_lem h)) (λ _. tt)

  command_fits : (l o : Bool) → in_range d ≡ true → (c : Command) → Fitted (command_plan l o d.registers.control d.pending c)
  command_fits l o h (Command.Refused k) = tt
  command_fits l o h Command.Nothing = tt
  command_fits l o h Command.Reset = tt
  command_fits l o h (Command.Set s) = setting_fits s
  command_fits l o h (Command.Tend t) = tend_fits t
  command_fits l o h Command.Load = pick_by Fitted _ _ _ (λ _. tt) (λ _. victim-lt h)
  command_fits l o h Command.Copy = pick_by Fitted _ _ _ (λ _. tt) (λ _. victim-lt h)
  command_fits l o h (Command.Prefetch v) = prefetch_fits h v (lent_refusal l o)
  command_fits l o h (Command.Acknowledge go) = acknowledge_fits h go (lent_refusal l o)

  pub write_fits : (l o : Bool) (c : Command) → Fitted (write_plan (in_range d) l o d.registers.control d.pending c)
  write_fits l o c = pick_by Fitted _ _ _ (λ h. command_fits l o h c) (λ _. tt)

  pub read_fits : (ok : Bool) (o : ℕ) → Fitted (read_plan ok o)
  read_fits ok o = pick_by Fitted _ _ _ (λ _. tt) (λ _. tt)

  pub drop_fits : (ok : Bool) (q : Option Stall) → Fitted (drop_plan ok q)
  drop_fits ok q = pick_by Fitted _ _ _ (λ _. pick_by Fitted _ _ _ (λ _. tt) (λ _. tt)) (λ _. tt)

  pub shift_fits : (ok l : Bool) (va : VirtualAddress) → Fitted (shift_plan ok l va)
  shift_fits ok l va = pick_by Fitted _ _ _ (λ _. pick_by Fitted _ _ _ (λ _. tt) (λ _. pick_by Fitted _ _ _ (λ _. tt) (λ _. tt))) (λ _. tt)
