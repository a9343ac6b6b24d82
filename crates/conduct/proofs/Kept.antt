-- Demand 2: what each call leaves alone. Assumes nothing.
use Rattle.page.specs.declared.Words.{Words}
use Rattle.std.proofs.Common.{Option, Some, None}
use Rattle.conduct.specs.Names.{◌≡◌, Bool, true, false, ◌≢◌, ℕ, ◌+◌, ◌*◌, ◌/◌, ◌%◌, ◌^◌, ◌<◌, eqb, pick, ◌and◌, listed, Answer, Tending, page_at}
use Rattle.conduct.specs.Names.{Clear, look, cleared, done_with, prefetch_at, control_at, acknowledge_at, base_high_at, base_low_at, lock_at, load_at, cam_high_at}
use Rattle.conduct.specs.Names.{cam_low_at, ram_high_at, ram_low_at, flush_at, entry_flush_at, may_walk, request_refusals, write_refusals, read_refusals}
use Rattle.conduct.specs.Names.{drop_refusals, request, write, read, shift, Access, VirtualAddress, Lent, Bill, Prices, Bank, Stall}
use Rattle.conduct.specs.Names.{Command, Device, Outcome, Told}
use Rattle.conduct.proofs.Names.{refl, sym, ◌∙◌, ap, true≢false, arith, eq-eqb, eqb-false, ◌or◌, pick_by, entry_filled, fill_lock}
use Rattle.conduct.proofs.Names.{control_command, lock_command, load_command, when_bit, command_of, value_at, by_offset, prefetch_decided, told}
use Rattle.conduct.proofs.Names.{told_refused, refused_with, decided_by, attempt_of, request_of, retried, carried, write_of, read_of, drop_of}
use Rattle.conduct.proofs.Names.{refuses_by}
use Rattle.conduct.specs.Kept.{is_reset, WriteKeeps, Frames}

-- no fill moves the lock base
fill_lock-kept : (b : Bank) (f : Option Words) → (entry_filled b f).lock ≡ b.lock
fill_lock-kept b None = refl
fill_lock-kept b (Some w) = fill_lock b w

keeps_all : (o : ℕ) (d : Device) → WriteKeeps o d d
keeps_all o d = record {
  control = λ _. refl;
  base_high = λ _. refl;
  base_low = λ _. refl;
  prefetch = λ _. refl;
  cam_high = λ _. refl;
  cam_low = λ _. refl;
  ram_high = λ _. refl;
  ram_low = λ _. refl;
  copied = λ _. refl;
  cam = λ _ _ _ _. refl;
  ram = λ _ _. refl;
  lock = λ _. refl;
  victim = λ _ _. refl;
  pending = λ _. refl;
}

-- slots and lock register: the registers and the pending fault stay
module _ (o : ℕ) (d e : Device) (r : e.registers ≡ d.registers) where
  keeps_bank :
      (may_walk o ≡ false → o ≢ load_at → o ≢ flush_at → o ≢ entry_flush_at → e.bank.cam ≡ d.bank.cam)
      → (may_walk o ≡ false → o ≢ load_at → e.bank.ram ≡ d.bank.ram)
      → (o ≢ lock_at → e.bank.lock ≡ d.bank.lock)
      → (may_walk o ≡ false → o ≢ lock_at → e.bank.victim ≡ d.bank.victim)
      → (may_walk o ≡ false → e.pending ≡ d.pending)
      → WriteKeeps o d e
  keeps_bank c m l v q = record {
    control = λ _. ap (λ r. r.control) r;
    base_high = λ _. ap (λ r. r.base.0 / 65536) r;
    base_low = λ _. ap (λ r. r.base.0 % 65536) r;
    prefetch = λ _. ap (λ r. r.prefetch) r;
    cam_high = λ _. ap (λ r. r.staged.camhi) r;
    cam_low = λ _. ap (λ r. r.staged.camlo) r;
    ram_high = λ _. ap (λ r. r.staged.ramhi) r;
    ram_low = λ _. ap (λ r. r.staged.ramlo) r;
    copied = λ _. ap (λ r. r.copied) r;
    cam = c;
    ram = m;
    lock = l;
    victim = v;
    pending = q;
  }

-- a register: the slots and the pending fault stay
module _ (o : ℕ) (d e : Device) (k : e.bank ≡ d.bank) (q : e.pending ≡ d.pending) where
  keeps_set :
      (o ≢ control_at → e.registers.control ≡ d.registers.control)
      → (o ≢ base_high_at → e.registers.base.0 / 65536 ≡ d.registers.base.0 / 65536)
      → (o ≢ base_low_at → e.registers.base.0 % 65536 ≡ d.registers.base.0 % 65536)
      → e.registers.prefetch ≡ d.registers.prefetch
      → (o ≢ cam_high_at → e.registers.staged.camhi ≡ d.registers.staged.camhi)
      → (o ≢ cam_low_at → e.registers.staged.camlo ≡ d.registers.staged.camlo)
      → (o ≢ ram_high_at → e.registers.staged.ramhi ≡ d.registers.staged.ramhi)
      → (o ≢ ram_low_at → e.registers.staged.ramlo ≡ d.registers.staged.ramlo)
      → (o ≢ load_at → e.registers.copied ≡ d.registers.copied)
      → WriteKeeps o d e
  keeps_set c h l p ch cl rh rl r = record {
    control = c;
    base_high = h;
    base_low = l;
    prefetch = λ _. p;
    cam_high = ch;
    cam_low = cl;
    ram_high = rh;
    ram_low = rl;
    copied = r;
    cam = λ _ _ _ _. ap (λ (b : Bank). b.cam) k;
    ram = λ _ _. ap (λ (b : Bank). b.ram) k;
    lock = λ _. ap (λ (b : Bank). b.lock) k;
    victim = λ _ _. ap (λ (b : Bank). b.victim) k;
    pending = λ _. q;
  }

-- the halves of the base
high_kept_lem : (b v : ℕ) → v < 2 ^ 16 → (b / 65536 * 65536 + v / 128 * 128) / 65536 ≡ b / 65536
high_kept_lem b v h = omega arith

low_kept_lem : (b v : ℕ) → (v * 65536 + b % 65536) % 65536 ≡ b % 65536
low_kept_lem b v = omega arith

module _ (m : Lent) (p : Prices) (b : Bill) (d : Device) (v : ℕ) where
  abbrev Keeps : ℕ → Outcome → Type 0
  Keeps o x = WriteKeeps o d x.device

  abbrev Does : ℕ → Command → Type 0
  Does o c = Keeps o (carried m p b d c)

  -- a retry
  attempt_keeps : (va : VirtualAddress) (a : Access) → Keeps acknowledge_at (attempt_of m p b true d va a)
  unfolding ◌or◌
  attempt_keeps va a =
      keeps_bank acknowledge_at d _ refl (λ n. absurd (true≢false n)) (λ n. absurd (true≢false n))
      (λ _. fill_lock-kept d.bank (decided_by (look m d va) d va a).fill) (λ n. absurd (true≢false n)) (λ n. absurd (true≢false n))

  drop_keeps : Keeps acknowledge_at (done_with b (cleared d))
  unfolding ◌or◌
  drop_keeps = keeps_bank acknowledge_at d _ refl (λ _ _ _ _. refl) (λ _ _. refl) (λ _. refl) (λ _ _. refl) (λ n. absurd (true≢false n))

  retry_keeps : (q : Option Stall) → Keeps acknowledge_at (retried m p b d q)
  retry_keeps None = keeps_all acknowledge_at d
  retry_keeps (Some s) = pick_by (Keeps acknowledge_at) _ _ _ (λ _. drop_keeps) (λ _. attempt_keeps s.at s.access)

  acknowledge_keeps : (go : Bool) → Does acknowledge_at (Command.Acknowledge go)
  acknowledge_keeps go = pick_by (Keeps acknowledge_at) _ _ _ (λ _. retry_keeps d.pending) (λ _. keeps_all acknowledge_at d)

  prefetch_keeps : Does prefetch_at (Command.Prefetch v)
  unfolding ◌or◌
  prefetch_keeps = record {
    control = λ _. refl;
    base_high = λ _. refl;
    base_low = λ _. refl;
    prefetch = λ n. absurd (n refl);
    cam_high = λ _. refl;
    cam_low = λ _. refl;
    ram_high = λ _. refl;
    ram_low = λ _. refl;
    copied = λ _. refl;
    cam = λ n. absurd (true≢false n);
    ram = λ n. absurd (true≢false n);
    lock = λ _. fill_lock-kept d.bank (prefetch_decided (look m d (page_at v)) d.bank.cam (page_at v)).fill;
    victim = λ n. absurd (true≢false n);
    pending = λ n. absurd (true≢false n);
  }

  control_keeps : is_reset control_at v ≡ false → Does control_at (control_command v)
  unfolding control_command ◌and◌
  control_keeps n =
      pick_by (Does control_at) _ _ _
      (λ _. keeps_set control_at d _ refl refl (λ n. absurd (n refl)) (λ _. refl) (λ _. refl) refl (λ _. refl) (λ _. refl) (λ _. refl) (λ _. refl) (λ _. refl))
      (λ e. absurd (true≢false (sym (eq-eqb (v % 2) 0 (even (eqb-false (v % 2) 1 e))) ∙ n)))
    where
      even : (v % 2 ≡ 1 → ⊥) → v % 2 ≡ 0
      even f = omega (arith, f)

  lock_keeps : Does lock_at (lock_command v)
  unfolding lock_command
  lock_keeps =
      pick_by (Does lock_at) _ _ _
      (λ _. keeps_bank lock_at d _ refl (λ _ _ _ _. refl) (λ _ _. refl) (λ n. absurd (n refl)) (λ _ n. absurd (n refl)) (λ _. refl))
      (λ _. keeps_all lock_at d)

  load_keeps : Does load_at (load_command v)
  unfolding load_command
  load_keeps =
      pick_by (Does load_at) _ _ _ (λ _. keeps_all load_at d)
      (λ _. pick_by (Does load_at) _ _ _
      (λ _. keeps_bank load_at d _ refl (λ _ n. absurd (n refl)) (λ _ n. absurd (n refl)) (λ _. refl) (λ _ _. refl) (λ _. refl))
      (λ _. pick_by (Does load_at) _ _ _
      (λ _. keeps_set load_at d _ refl refl (λ _. refl) (λ _. refl) (λ _. refl) refl (λ _. refl) (λ _. refl) (λ _. refl) (λ _. refl) (λ n. absurd (n refl)))
      (λ _. keeps_all load_at d)))

  flush_keeps_lem : Does flush_at (when_bit v Tending.Flush)
  unfolding when_bit
  flush_keeps_lem =
      pick_by (Does flush_at) _ _ _
      (λ _. keeps_bank flush_at d _ refl (λ _ _ n. absurd (n refl)) (λ _ _. refl) (λ _. refl) (λ _ _. refl) (λ _. refl))
      (λ _. keeps_all flush_at d)

  entry_keeps : Does entry_flush_at (when_bit v Tending.FlushEntry)
  unfolding when_bit
  entry_keeps =
      pick_by (Does entry_flush_at) _ _ _
      (λ _. keeps_bank entry_flush_at d _ refl (λ _ _ _ n. absurd (n refl)) (λ _ _. refl) (λ _. refl) (λ _ _. refl) (λ _. refl))
      (λ _. keeps_all entry_flush_at d)

  -- what every write does past its refusals keeps all but its own part
  carried_keeps : v < 2 ^ 16 → (o : ℕ) → is_reset o v ≡ false → Clear (write_refusals m p b d o v) → Does o (command_of o v)
  unfolding command_of listed pick
  carried_keeps fit =
      by_offset (λ (o : ℕ). is_reset o v ≡ false → Clear (write_refusals m p b d o v) → Does o (command_of o v))
      (λ _ _. prefetch_keeps)
      (λ _ _. keeps_all 0x04 d)
      (λ n _. control_keeps n)
      (λ _ _. keeps_all 0x0c d)
      (λ _ _. keeps_all 0x10 d)
      (λ _ _. keeps_all 0x14 d)
      (λ _ _. acknowledge_keeps (eqb (v % 2) 1))
      (λ _ _. keeps_set base_high_at d _ refl refl (λ _. refl) (λ n. absurd (n refl)) (λ _. low_kept_lem d.registers.base.0 v) refl (λ _. refl) (λ _. refl) (λ _. refl) (λ _. refl) (λ _. refl))
      (λ _ _. keeps_set base_low_at d _ refl refl (λ _. refl) (λ _. high_kept_lem d.registers.base.0 v fit) (λ n. absurd (n refl)) refl (λ _. refl) (λ _. refl) (λ _. refl) (λ _. refl) (λ _. refl))
      (λ _ _. lock_keeps)
      (λ _ _. load_keeps)
      (λ _ _. keeps_set cam_high_at d _ refl refl (λ _. refl) (λ _. refl) (λ _. refl) refl (λ n. absurd (n refl)) (λ _. refl) (λ _. refl) (λ _. refl) (λ _. refl))
      (λ _ _. keeps_set cam_low_at d _ refl refl (λ _. refl) (λ _. refl) (λ _. refl) refl (λ _. refl) (λ n. absurd (n refl)) (λ _. refl) (λ _. refl) (λ _. refl))
      (λ _ _. keeps_set ram_high_at d _ refl refl (λ _. refl) (λ _. refl) (λ _. refl) refl (λ _. refl) (λ _. refl) (λ n. absurd (n refl)) (λ _. refl) (λ _. refl))
      (λ _ _. keeps_set ram_low_at d _ refl refl (λ _. refl) (λ _. refl) (λ _. refl) refl (λ _. refl) (λ _. refl) (λ _. refl) (λ n. absurd (n refl)) (λ _. refl))
      (λ _ _. flush_keeps_lem)
      (λ _ _. entry_keeps)
      (λ _ _. keeps_all 0x44 d)
      (λ _ _. keeps_all 0x48 d)
      (λ _ _. keeps_all 0x4c d)
      (λ _ _. keeps_all 0x50 d)
      (λ o e _ c. absurd (true≢false (sym e ∙ c.1.0)))

pub frames : Frames
unfolding request_of write_of read_of drop_of
frames m d b = record {
  request = λ va a p.
      refuses_by (refused_with d b) (attempt_of m p b false d va a)
      (λ (x : Outcome). (x.device.registers ≡ d.registers) × (x.device.bank.lock ≡ d.bank.lock)) (request_refusals m p b d va)
      (λ k. (refl, refl)) (λ _. (refl, fill_lock-kept d.bank (decided_by (look m d va) d va a).fill));
  write = λ o v p fit n.
      refuses_by (refused_with d b) (carried m p b d (command_of o v)) (λ (x : Outcome). WriteKeeps o d x.device) (write_refusals m p b d o v)
      (λ k. keeps_all o d) (carried_keeps m p b d v fit o n);
  read = λ o.
      refuses_by (told_refused d) (told d (value_at o d.registers d.bank.lock d.bank.victim d.pending)) (λ (t : Told). t.device ≡ d) (read_refusals d o)
      (λ k. refl) (λ _. refl);
  dropped =
      refuses_by (told_refused d) (told (cleared d) Answer.Done) (λ (t : Told). (t.device.registers ≡ d.registers) × (t.device.bank ≡ d.bank)) (drop_refusals d)
      (λ k. (refl, refl)) (λ _. (refl, refl));
  shift = λ va. refl;
}
