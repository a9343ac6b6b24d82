-- Registers in range, and what keeps them there. Assumes nothing.
use Rattle.registers.specs.Names.{◌≡◌, true, ℕ, ◌+◌, ◌*◌, ◌/◌, ◌%◌, ◌^◌, eqb, ltb, pick, ◌and◌, Words, Bank, slots, Entry, Registers, Setting}
use Rattle.registers.specs.Names.{Tending, Command}
use Rattle.registers.proofs.Names.{refl, sym, ◌∙◌, subst, ◌<◌, arith, lt-ltb, eq-eqb, eqb-true, pick_by, and_yes, and_left, and_right, entry_ok}
use Rattle.registers.proofs.Names.{registers_ok, cam_address, listed, control_command, lock_command, load_command, when_bit, command_of}
use mathlib.Core.Path.{ap₂}
use borrow.Author.Tests.{ltb-true}
use Rattle.lanes.specs.Lanes.{cam_limit, cam_ok}
use Rattle.bank.specs.Slots.{bank_ok}
use Rattle.bank.specs.Changes.{loaded, copied}
use Rattle.bank.proofs.Ranges.{words_ok, stored_ok, locked_ok, flush_ok, flush_at_ok, copied_ok}
use Rattle.registers.specs.Fields.{half_ok, fresh_registers, words_of, entry_of, with_control, with_base, with_prefetch, with_staged, with_copied, setting}
use Rattle.registers.specs.Table.{tended}
use Rattle.registers.proofs.Rows.{by_offset, command_elsewhere}

-- a slot in register form in range, by its parts
pub record EntryInRange (e : Entry) : Type 0 where
  pub camhi : e.camhi < 4
  pub camlo : e.camlo < 2 ^ 16
  pub ramhi : e.ramhi < 2 ^ 16
  pub ramlo : e.ramlo < 2 ^ 16
  pub access : e.ramlo % 256 ≡ 0

module _ (e : Entry) where
  pub entry-in_range : entry_ok e ≡ true → EntryInRange e
  unfolding entry_ok
  entry-in_range h =
      let a = and_right (ltb e.camhi 4) _ h in
      let b = and_right (half_ok e.camlo) _ a in
      let c = and_right (half_ok e.ramhi) _ b in
      record {
        camhi = ltb-true _ _ (and_left _ _ h);
        camlo = ltb-true _ _ (and_left _ _ a);
        ramhi = ltb-true _ _ (and_left _ _ b);
        ramlo = ltb-true _ _ (and_left _ _ c);
        access = eqb-true _ _ (and_right (half_ok e.ramlo) _ c);
      }

  pub entry_ranged : e.camhi < 4 → e.camlo < 2 ^ 16 → e.ramhi < 2 ^ 16 → e.ramlo < 2 ^ 16 → e.ramlo % 256 ≡ 0 → entry_ok e ≡ true
  unfolding entry_ok
  entry_ranged a b c d m =
      and_yes _ _ (lt-ltb _ _ a) ∙ and_yes _ _ (lt-ltb _ _ b) ∙ and_yes _ _ (lt-ltb _ _ c) ∙ and_yes _ _ (lt-ltb _ _ d) ∙ eq-eqb _ _ m

-- registers in range, by their parts
pub record RegistersInRange (r : Registers) : Type 0 where
  pub control : r.control < 64
  pub kept : r.control / 8 % 4 ≡ 0
  pub base : r.base.0 < 2 ^ 32
  pub start : r.base.0 % 128 ≡ 0
  pub prefetch : r.prefetch < 2 ^ 14
  pub staged : entry_ok r.staged ≡ true
  pub copied : entry_ok r.copied ≡ true

module _ (r : Registers) where
  pub registers_in-range : registers_ok r ≡ true → RegistersInRange r
  unfolding registers_ok
  registers_in-range h =
      let a = and_right (ltb r.control 64) _ h in
      let b = and_right (eqb (r.control / 8 % 4) 0) _ a in
      let c = and_right (ltb r.base.0 (2 ^ 32)) _ b in
      let d = and_right (eqb (r.base.0 % 128) 0) _ c in
      let e = and_right (ltb r.prefetch (2 ^ 14)) _ d in
      record {
        control = ltb-true _ _ (and_left _ _ h);
        kept = eqb-true _ _ (and_left _ _ a);
        base = ltb-true _ _ (and_left _ _ b);
        start = eqb-true _ _ (and_left _ _ c);
        prefetch = ltb-true _ _ (and_left _ _ d);
        staged = and_left _ _ e;
        copied = and_right (entry_ok r.staged) _ e;
      }

  pub registers_ranged :
      r.control < 64 → r.control / 8 % 4 ≡ 0
      → r.base.0 < 2 ^ 32 → r.base.0 % 128 ≡ 0
      → r.prefetch < 2 ^ 14
      → entry_ok r.staged ≡ true
      → entry_ok r.copied ≡ true
      → registers_ok r ≡ true
  unfolding registers_ok
  registers_ranged c k b m p s d =
      and_yes _ _ (lt-ltb _ _ c) ∙ and_yes _ _ (eq-eqb _ _ k)
      ∙ and_yes _ _ (lt-ltb _ _ b) ∙ and_yes _ _ (eq-eqb _ _ m)
      ∙ and_yes _ _ (lt-ltb _ _ p) ∙ and_yes _ _ s ∙ d

pub fresh_ok : registers_ok fresh_registers ≡ true
unfolding registers_ok entry_ok ◌and◌
fresh_ok = refl

-- a setting with its kept bits alone
abbrev pub SettingOk : Setting → Type 0
SettingOk (Setting.Control v) = (v < 64) × (v / 8 % 4 ≡ 0)
SettingOk (Setting.BaseHigh v) = v < 2 ^ 16
SettingOk (Setting.BaseLow v) = (v < 2 ^ 16) × (v % 128 ≡ 0)
SettingOk (Setting.CamHigh v) = v < 4
SettingOk (Setting.CamLow v) = v < 2 ^ 16
SettingOk (Setting.RamHigh v) = v < 2 ^ 16
SettingOk (Setting.RamLow v) = (v < 2 ^ 16) × (v % 256 ≡ 0)

-- every change of registers in range by a part in range leaves them in range
module _ (r : Registers) (h : registers_ok r ≡ true) where
  pub with_control_ok : (v : ℕ) → v < 64 → v / 8 % 4 ≡ 0 → registers_ok (with_control r v) ≡ true
  with_control_ok v g k =
      let i = registers_in-range r h in
      registers_ranged _ g k i.base i.start i.prefetch i.staged i.copied

  pub with_base_ok : (b : ℕ) → b < 2 ^ 32 → b % 128 ≡ 0 → registers_ok (with_base r b) ≡ true
  with_base_ok b g m =
      let i = registers_in-range r h in
      registers_ranged _ i.control i.kept g m i.prefetch i.staged i.copied

  pub with_prefetch_ok : (v : ℕ) → v < 2 ^ 14 → registers_ok (with_prefetch r v) ≡ true
  with_prefetch_ok v g =
      let i = registers_in-range r h in
      registers_ranged _ i.control i.kept i.base i.start g i.staged i.copied

  pub with_staged_ok : (e : Entry) → entry_ok e ≡ true → registers_ok (with_staged r e) ≡ true
  with_staged_ok e g =
      let i = registers_in-range r h in
      registers_ranged _ i.control i.kept i.base i.start i.prefetch g i.copied

  pub with_copied_ok : (e : Entry) → entry_ok e ≡ true → registers_ok (with_copied r e) ≡ true
  with_copied_ok e g =
      let i = registers_in-range r h in
      registers_ranged _ i.control i.kept i.base i.start i.prefetch i.staged g

  -- the prefetch register keeps bits 13:0
  pub prefetch_kept_ok : (v : ℕ) → registers_ok (with_prefetch r (v % 2 ^ 14)) ≡ true
  prefetch_kept_ok v = with_prefetch_ok (v % 2 ^ 14) (omega arith)

  pub set_ok : (s : Setting) → SettingOk s → registers_ok (setting r s) ≡ true
  set_ok (Setting.Control v) g = with_control_ok v g.0 g.1
  set_ok (Setting.BaseHigh v) g =
      let i = registers_in-range r h in
      with_base_ok (v * 65536 + r.base.0 % 65536) (omega (arith, g)) (omega (arith, i.start))
  set_ok (Setting.BaseLow v) g =
      let i = registers_in-range r h in
      with_base_ok (r.base.0 / 65536 * 65536 + v) (omega (arith, g.0, i.base)) (omega (arith, g.1))
  set_ok (Setting.CamHigh v) g =
      let e = entry-in_range _ (registers_in-range r h).staged in
      with_staged_ok _ (entry_ranged _ g e.camlo e.ramhi e.ramlo e.access)
  set_ok (Setting.CamLow v) g =
      let e = entry-in_range _ (registers_in-range r h).staged in
      with_staged_ok _ (entry_ranged _ e.camhi g e.ramhi e.ramlo e.access)
  set_ok (Setting.RamHigh v) g =
      let e = entry-in_range _ (registers_in-range r h).staged in
      with_staged_ok _ (entry_ranged _ e.camhi e.camlo g e.ramlo e.access)
  set_ok (Setting.RamLow v) g =
      let e = entry-in_range _ (registers_in-range r h).staged in
      with_staged_ok _ (entry_ranged _ e.camhi e.camlo e.ramhi g.0 g.1)

-- words and entries are two forms of one slot
pub words-entry : (w : Words) → words_of (entry_of w) ≡ w
words-entry w =
    ap₂ (λ (c m : ℕ). record { cam = c; ram = m }) (halves w.cam) (halves w.ram)
  where
    halves : (x : ℕ) → x / 65536 * 65536 + x % 65536 ≡ x
    halves x = omega arith

high_half : (a b : ℕ) → b < 2 ^ 16 → (a * 65536 + b) / 65536 ≡ a
high_half a b h = omega arith

low_half : (a b : ℕ) → b < 2 ^ 16 → (a * 65536 + b) % 65536 ≡ b
low_half a b h = omega arith

pub entry_words_lem : (e : Entry) → entry_ok e ≡ true → entry_of (words_of e) ≡ e
entry_words_lem e h =
    let i = entry-in_range e h in
    ap₂ (λ (p q : ℕ × ℕ). record { camhi = p.0; camlo = p.1; ramhi = q.0; ramlo = q.1 })
    (ap₂ (λ (x y : ℕ). (x, y)) (high_half _ _ i.camlo) (low_half _ _ i.camlo))
    (ap₂ (λ (x y : ℕ). (x, y)) (high_half _ _ i.ramlo) (low_half _ _ i.ramlo))

pub entry_of_ok : (w : Words) → words_ok w ≡ true → entry_ok (entry_of w) ≡ true
entry_of_ok w h =
    let c : w.cam < cam_limit = ltb-true _ _ (and_left _ _ h) in
    let m = and_right (cam_ok cam_limit w.cam) _ h in
    let l : w.ram < 2 ^ 32 = ltb-true _ _ (and_left _ _ m) in
    let a : w.ram % 256 ≡ 0 = eqb-true _ _ (and_right (ltb w.ram (2 ^ 32)) _ m) in
    entry_ranged (entry_of w) (omega (arith, c)) (omega arith) (omega (arith, l)) (omega arith) (omega (arith, a))

pub words_of_ok : (e : Entry) → entry_ok e ≡ true → words_ok (words_of e) ≡ true
words_of_ok e h =
    let i = entry-in_range e h in
    and_yes _ _ (lt-ltb (e.camhi * 65536 + e.camlo) cam_limit (omega (arith, i.camhi, i.camlo)))
    ∙ and_yes _ _ (lt-ltb (e.ramhi * 65536 + e.ramlo) (2 ^ 32) (omega (arith, i.ramhi, i.ramlo)))
    ∙ eq-eqb ((e.ramhi * 65536 + e.ramlo) % 256) 0 (omega (arith, i.access))

-- load and copy keep the ranges
module _ (b : Bank) (h : bank_ok b ≡ true) (r : Registers) (g : registers_ok r ≡ true) where
  pub load_ok : bank_ok (loaded b (words_of r.staged)) ≡ true
  load_ok = stored_ok b h b.victim _ (words_of_ok r.staged (registers_in-range r g).staged)

  pub copy_ok : registers_ok (with_copied r (entry_of (copied b))) ≡ true
  copy_ok = with_copied_ok r g _ (entry_of_ok (copied b) (copied_ok b h))

-- a flush keeps them, and a lock base and victim of a slot
abbrev pub TendingOk : Tending → Type 0
TendingOk (Tending.Lock l v) = (l < slots) × (v < slots)
TendingOk Tending.Flush = Unit {0}
TendingOk Tending.FlushEntry = Unit {0}

pub tended_ok : (b : Bank) → bank_ok b ≡ true → (staged : Entry) (t : Tending) → TendingOk t → bank_ok (tended b staged t) ≡ true
tended_ok b h staged (Tending.Lock l v) g = locked_ok b h l v g.0 g.1
tended_ok b h staged Tending.Flush g = flush_ok b h
tended_ok b h staged Tending.FlushEntry g = flush_at_ok b h (cam_address staged)

-- what a write of 16 bits asks for is in range
abbrev pub CommandOk : Command → Type 0
CommandOk (Command.Refused k) = Unit {0}
CommandOk Command.Nothing = Unit {0}
CommandOk Command.Reset = Unit {0}
CommandOk (Command.Set s) = SettingOk s
CommandOk (Command.Tend t) = TendingOk t
CommandOk Command.Load = Unit {0}
CommandOk Command.Copy = Unit {0}
CommandOk (Command.Prefetch v) = Unit {0}
CommandOk (Command.Acknowledge t) = Unit {0}

control_ok : (v : ℕ) → CommandOk (control_command v)
unfolding control_command
control_ok v = pick_by CommandOk _ _ _ (λ _. (omega arith, omega arith)) (λ _. tt)

lock_ok : (v : ℕ) → CommandOk (lock_command v)
unfolding lock_command
lock_ok v =
    pick_by CommandOk _ _ _
    (λ e. (ltb-true (v / 1024) slots (and_left _ _ e), ltb-true (v / 16 % 64) slots (and_right (ltb (v / 1024) slots) _ e)))
    (λ _. tt)

load_command_ok : (v : ℕ) → CommandOk (load_command v)
unfolding load_command
load_command_ok v = pick_by CommandOk _ _ _ (λ _. tt) (λ _. pick_by CommandOk _ _ _ (λ _. tt) (λ _. pick_by CommandOk _ _ _ (λ _. tt) (λ _. tt)))

when_bit_ok : (v : ℕ) (t : Tending) → TendingOk t → CommandOk (when_bit v t)
unfolding when_bit
when_bit_ok v t g = pick_by CommandOk _ _ _ (λ _. g) (λ _. tt)

pub command_ok : (v : ℕ) → v < 2 ^ 16 → (o : ℕ) → CommandOk (command_of o v)
unfolding command_of listed pick
command_ok v h =
    by_offset (λ (o : ℕ). CommandOk (command_of o v))
    tt
    tt
    (control_ok v)
    tt
    tt
    tt
    tt
    h
    (omega (arith, h), omega arith)
    (lock_ok v)
    (load_command_ok v)
    (omega arith)
    h
    h
    (omega (arith, h), omega arith)
    (when_bit_ok v Tending.Flush tt)
    (when_bit_ok v Tending.FlushEntry tt)
    tt
    tt
    tt
    tt
    (λ o g. subst CommandOk (sym (command_elsewhere o v g)) tt)

module _ (o v : ℕ) (h : v < 2 ^ 16) where
  pub setting_ok : (s : Setting) → command_of o v ≡ Command.Set s → SettingOk s
  setting_ok s e = subst CommandOk e (command_ok v h o)

  pub tending_ok : (t : Tending) → command_of o v ≡ Command.Tend t → TendingOk t
  tending_ok t e = subst CommandOk e (command_ok v h o)
