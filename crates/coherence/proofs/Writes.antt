-- A register write other than to control and base keeps the slots in agreement. Assumes nothing.
use Rattle.std.proofs.Common.{Option, Some, None}
use Rattle.coherence.specs.Names.{ℕ, ◌≡◌, true, false, List, pick, ◌and◌, limit, is_walking, Lent, Bill, Prices, Stall, Device}
use Rattle.coherence.proofs.Names.{sym, ◌∙◌, subst, true≢false, ◌or◌, pick_by, and_yes, InRange, listed, command_of, Setting, Command, Outcome}
use Rattle.coherence.proofs.Names.{cleared, is_untimely, retried, carried, Lanes, Below, Coherent, Uniform, look_in}
use Rattle.page.proofs.Picks.{or_yes}
use Rattle.bank.specs.Changes.{with_cams}
use Rattle.registers.specs.Fields.{cam_address, setting}
use Rattle.registers.specs.Table.{lock_command, load_command, when_bit, tended}
use Rattle.registers.specs.declared.Tending.{Tending}
use Rattle.registers.proofs.Rows.{by_offset, command_elsewhere}
use Rattle.unit.specs.Device.{set_registers, set_bank}
use Rattle.coherence.specs.Sessions.{is_fixed}
use Rattle.coherence.proofs.Slots.{flush_agrees, flush_at_agrees}
use Rattle.coherence.proofs.Attempts.{attempt_keeps, prefetch_keeps}

-- a setting that leaves control and base alone
abbrev Leaves : Setting → Type 0
Leaves (Setting.Control v) = ⊥
Leaves (Setting.BaseHigh v) = ⊥
Leaves (Setting.BaseLow v) = ⊥
Leaves (Setting.CamHigh v) = Unit {0}
Leaves (Setting.CamLow v) = Unit {0}
Leaves (Setting.RamHigh v) = Unit {0}
Leaves (Setting.RamLow v) = Unit {0}

-- a command that does, and that stores in no slot what the host chose
abbrev pub Tame : Command → Type 0
Tame (Command.Refused k) = Unit {0}
Tame Command.Nothing = Unit {0}
Tame Command.Reset = ⊥
Tame (Command.Set s) = Leaves s
Tame (Command.Tend t) = Unit {0}
Tame Command.Load = ⊥
Tame Command.Copy = Unit {0}
Tame (Command.Prefetch v) = Unit {0}
Tame (Command.Acknowledge go) = Unit {0}

module _ (v : ℕ) where
  lock_tame : Tame (lock_command v)
  unfolding lock_command
  lock_tame = pick_by Tame _ _ _ (λ _. tt) (λ _. tt)

  bit_tame : (t : Tending) → Tame (when_bit v t)
  unfolding when_bit
  bit_tame t = pick_by Tame _ _ _ (λ _. tt) (λ _. tt)

  module _ (d : Device) (w : is_walking d.registers.control ≡ true) where
    -- load and copy are refused 7 while walking is set
    load_tame : is_untimely d 0x28 v ≡ false → Tame (load_command v)
    unfolding load_command is_untimely ◌and◌ ◌or◌
    load_tame h =
        pick_by Tame _ _ _ (λ _. tt)
        (λ _. pick_by Tame _ _ _ (λ e. absurd (true≢false (sym (or_yes _ false (and_yes _ _ (or_yes _ _ e) ∙ w)) ∙ h)))
        (λ _. pick_by Tame _ _ _ (λ _. tt) (λ _. tt)))

    pub tame : (o : ℕ) → is_fixed o ≡ false → is_untimely d o v ≡ false → Tame (command_of o v)
    unfolding command_of listed pick ◌or◌
    tame =
        by_offset (λ (o : ℕ). is_fixed o ≡ false → is_untimely d o v ≡ false → Tame (command_of o v))
        (λ _ _. tt)
        (λ _ _. tt)
        (λ f _. absurd (true≢false f))
        (λ _ _. tt)
        (λ _ _. tt)
        (λ _ _. tt)
        (λ _ _. tt)
        (λ f _. absurd (true≢false f))
        (λ f _. absurd (true≢false f))
        (λ _ _. lock_tame)
        (λ _ h. load_tame h)
        (λ _ _. tt)
        (λ _ _. tt)
        (λ _ _. tt)
        (λ _ _. tt)
        (λ _ _. bit_tame Tending.Flush)
        (λ _ _. bit_tame Tending.FlushEntry)
        (λ _ _. tt)
        (λ _ _. tt)
        (λ _ _. tt)
        (λ _ _. tt)
        (λ o g _ _. subst Tame (sym (command_elsewhere o v g)) tt)

module _ (m : Lent) (base : ℕ) (u : Uniform limit (look_in m base)) (d : Device) (h : Coherent (look_in m base) base d) where
  abbrev Keeps : Device → Type 0
  Keeps e = Coherent (look_in m base) base e

  pub cleared_keeps : Keeps (cleared d)
  cleared_keeps = record { on = h.on; walking = h.walking; base-is = h.base-is; lanes = h.lanes; below = tt }

  setting_keeps : (s : Setting) → Leaves s → Keeps (set_registers d (setting d.registers s))
  setting_keeps (Setting.Control _) e = elim e [ ]
  setting_keeps (Setting.BaseHigh _) e = elim e [ ]
  setting_keeps (Setting.BaseLow _) e = elim e [ ]
  setting_keeps (Setting.CamHigh v) e = h
  setting_keeps (Setting.CamLow v) e = h
  setting_keeps (Setting.RamHigh v) e = h
  setting_keeps (Setting.RamLow v) e = h

  with_cams_lem : (cam : List ℕ) → Lanes (look_in m base) cam d.bank.ram → Keeps (set_bank d (with_cams d.bank cam))
  with_cams_lem cam l = record { on = h.on; walking = h.walking; base-is = h.base-is; lanes = l; below = h.below }

  tended_keeps : (t : Tending) → Keeps (set_bank d (tended d.bank d.registers.staged t))
  tended_keeps (Tending.Lock l v) = h
  tended_keeps Tending.Flush = with_cams_lem _ (flush_agrees _ d.bank.cam d.bank.ram h.lanes)
  tended_keeps Tending.FlushEntry = with_cams_lem _ (flush_at_agrees _ d.bank.cam d.bank.ram h.lanes (cam_address d.registers.staged))

  module _ (r : InRange d.bank) (p : Prices) (b : Bill) where
    abbrev Ends : Outcome → Type 0
    Ends x = Keeps x.device

    retry_keeps : (q : Option Stall) → Below q → Ends (retried m p b d q)
    retry_keeps None l = h
    retry_keeps (Some s) l = pick_by Ends _ _ _ (λ _. cleared_keeps) (λ _. attempt_keeps m base u d h r s.at l p b true s.access)

    pub carried_keeps : (c : Command) → Tame c → Ends (carried m p b d c)
    carried_keeps (Command.Refused k) e = h
    carried_keeps Command.Nothing e = h
    carried_keeps Command.Reset e = elim e [ ]
    carried_keeps Command.Load e = elim e [ ]
    carried_keeps (Command.Set s) e = setting_keeps s e
    carried_keeps (Command.Tend t) e = tended_keeps t
    carried_keeps Command.Copy e = h
    carried_keeps (Command.Prefetch v) e = prefetch_keeps m base u d h r p b v
    carried_keeps (Command.Acknowledge go) e = pick_by Ends _ _ _ (λ _. retry_keeps d.pending h.below) (λ _. h)
