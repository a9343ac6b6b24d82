-- Each call is its plan, performed on the parts of the device. Assumes nothing.
use Rattle.std.proofs.Common.{Option, Some, None}
use Rattle.std.specs.Prelude.{ℤ}
use Rattle.std.proofs.Common.{Result, Err}
use Rattle.decision.specs.declared.ShiftError.{ShiftError}
use Rattle.unit.specs.Names.{◌≡◌, Bool, true, false, not, [], ◌∷◌, ℕ, ◌/◌, ◌%◌, ◌^◌, eqb, leb, pick, ◌and◌, ◌or◌, limit, money_ok, slots, idle}
use Rattle.unit.specs.Names.{is_prefetch, is_on, is_walking, with_prefetch, no_register, command_of, value_at, Setting, is_missing, page_at}
use Rattle.unit.specs.Names.{prefetch_decided, prefetch_kept, shift_by, Said, Plan, Done, uncharged, performed, Place, last_place, Access, VirtualAddress, Lent, lent_ok}
use Rattle.unit.specs.Names.{Walked, Bill, Prices, Fault, Stall, Answer, Tending, Command, Device, Outcome}
use Rattle.unit.proofs.Names.{refl, sym, ◌∙◌, ap, ◌<◌, arith, ltb-true, pick_yes, pick_no, pick_by, and_left, and_right, request_plan}
use Rattle.unit.proofs.Names.{pending_plan, command_plan, write_plan, read_plan, drop_plan, shift_plan, Reason, Refusals, refuses, in_range}
use Rattle.unit.proofs.Names.{refused_with, look, attempt_of, lacks, retry_lacks, request_of, write_of, read_of, drop_of, shift_of, shift_from, prefetched}
use Rattle.unit.proofs.Names.{held_retried}
use mathlib.Core.Path.{ap₂}
use Prim.Native.Nat.{zero, suc}
use lib.Dec.{ltb}
use borrow.Author.Tests.{eqb-true, eqb-false, lt-leb, eq-eqb, ne_eqb}
use Rattle.page.proofs.Picks.{or_no}
use Rattle.registers.specs.Table.{listed, control_command, lock_command, load_command, when_bit}
use Rattle.registers.proofs.Rows.{by_offset, command_elsewhere, value_elsewhere}
use Rattle.plan.specs.Plans.{setting_at, retry_plan, lent_refusal, prefetch_plan, acknowledge_plan}
use Rattle.perform.specs.Performed.{ended_for, decided_for}
use Rattle.unit.specs.Device.{cleared, told, told_refused, done_with}
use Rattle.unit.specs.Acts.{done_by, done_told}
use Rattle.unit.specs.Calls.{write_lacks, is_malformed, is_untimely, write_refusals, read_refusals, retried, carried}
use Rattle.unit.proofs.Refusing.{refuses-map, refused_here, passed, last_same}
use Rattle.unit.proofs.Attempts.{look_ok, lacks-attempt, lacks_retry, prefetch_lacks, lacks-prefetch, shift_last, from_last}

-- a bit is clear where it is not set
bit_clear : (n : ℕ) → eqb (n % 2) 0 ≡ not (eqb (n % 2) 1)
bit_clear n = by (eqb (n % 2) 0) refl
  where
    by : (t : Bool) → eqb (n % 2) 0 ≡ t → eqb (n % 2) 0 ≡ not (eqb (n % 2) 1)
    by true e = e ∙ ap not (sym (ne_eqb (n % 2) 1 (λ q. absurd (omega (arith, q, eqb-true (n % 2) 0 e)))))
    by false e = e ∙ ap not (sym (eq-eqb (n % 2) 1 (omega (arith, eqb-false (n % 2) 0 e))))

or-none : (t : Bool) → (t or false) ≡ t
unfolding ◌or◌
or-none true = refl
or-none false = refl

-- what stands after the device's own 8
abbrev rest : Refusals → Refusals
rest [] = []
rest (r ∷ rs) = rs

module _ (m : Lent) (p : Prices) (b : Bill) (d : Device) where
  abbrev pub run : Plan → Done
  run x = performed m p b d.registers d.bank d.pending x

  abbrev say : ℕ → Done
  say n = run (Plan.Refused n)

  -- a plan that goes on where nothing that is lent is refused
  gate :
      (f : Option ℕ → Plan) (rs : Refusals) (y : Done)
      → ((k : ℕ) → f (Some k) ≡ Plan.Refused k)
      → (l o : Bool)
      → (l ≡ true → run (f None) ≡ refuses rs say y)
      → run (f (lent_refusal l o)) ≡ refuses ((not l, 4) ∷ (not o, 9) ∷ rs) say y
  unfolding pick refuses
  gate f rs y r false o h = ap run (r 4)
  gate f rs y r true false h = ap run (r 9)
  gate f rs y r true true h = h refl

  -- tests as plans nest them are a list of refusals
  module _ (rs : Refusals) (x : Plan) (y : Done) where
    ready :
        (e s i on w : Bool)
        → e ≡ not s
        → run x ≡ refuses rs say y
        → run (pick e (pick i (pick on (pick w x (Plan.Refused 7)) (Plan.Refused 7)) (Plan.Refused 2)) (Plan.Refused 8)) ≡ refuses ((s, 8) ∷ (not i, 2) ∷ (not (on and w), 7) ∷ rs) say y
    unfolding pick ◌and◌ refuses
    ready e true i on w h f = ap run (pick_no e _ _ h)
    ready e false false on w h f = ap run (pick_yes e _ _ h)
    ready e false true false w h f = ap run (pick_yes e _ _ h)
    ready e false true true false h f = ap run (pick_yes e _ _ h)
    ready e false true true true h f = ap run (pick_yes e _ _ h) ∙ f

    firstly :
        (ok v l o i : Bool)
        → (l ≡ true → run x ≡ refuses rs say y)
        → run (pick ok (pick v (Plan.Refused 1) (pick l (pick o (pick i x (Plan.Refused 2)) (Plan.Refused 9)) (Plan.Refused 4))) (Plan.Refused 8))
        ≡ refuses ((not ok, 8) ∷ (v, 1) ∷ (not l, 4) ∷ (not o, 9) ∷ (not i, 2) ∷ rs) say y
    unfolding pick refuses
    firstly false v l o i h = refl
    firstly true true l o i h = refl
    firstly true false false o i h = refl
    firstly true false true false i h = refl
    firstly true false true true false h = refl
    firstly true false true true true h = h refl

    within : (ok : Bool) → run x ≡ refuses rs say y → run (pick ok x (Plan.Refused 8)) ≡ refuses ((not ok, 8) ∷ rs) say y
    unfolding pick refuses
    within true h = h
    within false h = refl

  -- a last condition changes nothing where the call says 3 of itself
  lastly : (t : Bool) (x : Done) (y : Outcome) → x ≡ done_by y → (t ≡ true → y ≡ refused_with d b 3) → x ≡ refuses ((t, 3) ∷ []) say (done_by y)
  lastly t x y e h = last_same say (done_by y) t 3 x e (λ q. ap done_by (h q))

  -- an attempt, where w is what the plain walk of its address gives
  abbrev tried : Reason → VirtualAddress → Access → Walked → Done
  tried e va a w = ended_for p b e d.registers d.bank d.pending va a (decided_for e w d.registers.control d.bank.cam d.bank.ram va a)

  -- a request or a retry
  request_last : (va : VirtualAddress) (a : Access) → lent_ok m ≡ true → run (Plan.Attempt a Reason.Request va) ≡ refuses ((lacks m d va, 3) ∷ []) say (done_by (attempt_of m p b false d va a))
  request_last va a h =
      lastly _ _ (attempt_of m p b false d va a)
      (ap (tried Reason.Request va a) (look_ok m d va h))
      (lacks-attempt m p b false d va a)

  retry_ok : (k : Fault) (va : VirtualAddress) (a : Access) → lent_ok m ≡ true → run (retry_plan k va a) ≡ done_by (held_retried m p b d k va a)
  unfolding pick
  retry_ok k va a h = by (is_prefetch k)
    where
      by : (t : Bool) → run (pick t Plan.Drop (Plan.Attempt a Reason.Retry va)) ≡ done_by (pick t (done_with b (cleared d)) (attempt_of m p b true d va a))
      by true = refl
      by false = ap (tried Reason.Retry va a) (look_ok m d va h)

  -- a prefetch
  prefetch_ok : (v : ℕ) → lent_ok m ≡ true → run (Plan.Attempt Access.Read Reason.Prefetch (page_at v)) ≡ done_by (prefetched m p b d v)
  prefetch_ok v h =
      let x = prefetch_decided (look m d (page_at v)) d.bank.cam (page_at v) in
      let y = tried Reason.Prefetch (page_at v) Access.Read (look m d (page_at v)) in
      let e : (page_at v).0 / 1024 % 16384 ≡ v % 2 ^ 14 = omega arith in
      ap (tried Reason.Prefetch (page_at v) Access.Read) (look_ok m d (page_at v) h)
      ∙ ap (λ (n : ℕ). record {
        registers = with_prefetch d.registers (prefetch_kept n d.registers.prefetch x.answer);
        bank = y.bank;
        pending = y.pending;
        bill = y.bill;
        tally = y.tally;
        said = y.said;
        from = y.from;
      }) e

  -- a request: its list of refusals
  pub request-done : (va : VirtualAddress) (a : Access) → run (request_plan (in_range d) (lent_ok m) (money_ok p b) d.pending va a) ≡ done_by (request_of m p b d va a)
  unfolding request_of
  request-done va a =
      firstly _ (Plan.Attempt a Reason.Request va) (done_by (attempt_of m p b false d va a)) (in_range d) (leb limit va.0) (lent_ok m) (money_ok p b) (idle d.pending) (request_last va a)
      ∙ sym (refuses-map done_by _ (refused_with d b) (attempt_of m p b false d va a))

  -- a write by its command, past the device's own 8
  abbrev obeyed : Command → Done
  obeyed c = run (command_plan (lent_ok m) (money_ok p b) d.registers.control d.pending c)

  -- a command that refuses nothing of its own
  abbrev Same : Command → Type 0
  Same c = obeyed c ≡ done_by (carried m p b d c)

  set_same : (v : ℕ) → Same (Command.Set (Setting.Control v))
  unfolding setting_at pick
  set_same v = refl

  control_same : (v : ℕ) → Same (control_command v)
  unfolding control_command
  control_same v = pick_by Same _ _ _ (λ _. set_same _) (λ _. refl)

  bit_same : (v : ℕ) (t : Tending) → obeyed (Command.Tend t) ≡ done_by (carried m p b d (Command.Tend t)) → Same (when_bit v t)
  unfolding when_bit
  bit_same v t h = pick_by Same _ _ _ (λ _. h) (λ _. refl)

  -- 8 of the lock register
  lock_same : (v : ℕ) → obeyed (lock_command v) ≡ pick ((leb slots (v / 1024) or leb slots (v / 16 % 64)) or false) (say 8) (done_by (carried m p b d (lock_command v)))
  unfolding lock_command
  lock_same v =
      let l = v / 1024 in
      let u = v / 16 % 64 in
      let t = (leb slots l or leb slots u) or false in
      pick_by (λ c. obeyed c ≡ pick t (say 8) (done_by (carried m p b d c))) (ltb l slots and ltb u slots) _ _
      (λ h. sym (pick_no t _ _ (or_no _ _ (or_no _ _ (lt-leb slots l (ltb-true l slots (and_left _ _ h))) ∙ lt-leb slots u (ltb-true u slots (and_right _ _ h))))))
      (λ _. pick_by (λ z. say 8 ≡ z) t _ _ (λ _. refl) (λ _. refl))

  -- 8 and 7 of the load register
  abbrev load_by : ℕ → Command
  load_by r = pick (eqb r 0) Command.Nothing (pick (eqb r 1) Command.Load (pick (eqb r 2) Command.Copy (Command.Refused 8)))

  walking-pick : (t : Bool) (x : Plan) → run (pick t (Plan.Refused 7) x) ≡ pick (t or false) (say 7) (run x)
  unfolding pick ◌or◌
  walking-pick true x = refl
  walking-pick false x = refl

  load_same : (r : ℕ) → r < 4
      → obeyed (load_by r) ≡ refuses ((eqb r 3, 8) ∷ (((eqb r 1 or eqb r 2) and is_walking d.registers.control) or false, 7) ∷ []) say (done_by (carried m p b d (load_by r)))
  unfolding pick ◌and◌ ◌or◌ refuses
  load_same zero h = refl
  load_same (suc zero) h = walking-pick (is_walking d.registers.control) Plan.Load
  load_same (suc (suc zero)) h = walking-pick (is_walking d.registers.control) Plan.Copy
  load_same (suc (suc (suc zero))) h = refl
  load_same (suc (suc (suc (suc r)))) h = absurd (omega (arith, h))

  -- 7 and 3 of the acknowledge register
  retry_same :
      (q : Option Stall) (go : Bool)
      → lent_ok m ≡ true
      → run (pick go (pending_plan q) Plan.Done)
      ≡ refuses ((go and idle q, 7) ∷ (go and retry_lacks m d q, 3) ∷ []) say (done_by (pick go (retried m p b d q) (done_with b d)))
  unfolding pick ◌and◌ refuses
  retry_same q false h = refl
  retry_same None true h = refl
  retry_same (Some s) true h = lastly (retry_lacks m d (Some s)) _ (held_retried m p b d s.fault s.at s.access) (retry_ok s.fault s.at s.access h) (lacks_retry m p b d s.fault s.at s.access)

  acknowledge_same :
      (go : Bool)
      → obeyed (Command.Acknowledge go)
      ≡ refuses ((not (lent_ok m), 4) ∷ (not (money_ok p b), 9) ∷ (go and idle d.pending, 7) ∷ (go and retry_lacks m d d.pending, 3) ∷ [])
      say (done_by (carried m p b d (Command.Acknowledge go)))
  acknowledge_same go = gate (λ k. acknowledge_plan go k d.pending) _ _ (λ k. refl) (lent_ok m) (money_ok p b) (retry_same d.pending go)

  -- 8, 2, 7 and 3 of the prefetch register
  abbrev both : Bool
  both = is_on d.registers.control and is_walking d.registers.control

  prefetch_same :
      (v : ℕ)
      → obeyed (Command.Prefetch v)
      ≡ refuses ((not (lent_ok m), 4) ∷ (not (money_ok p b), 9) ∷ (eqb (v / 2 ^ 14 % 2) 1 or false, 8)
      ∷ (not (idle d.pending), 2) ∷ (not both or false, 7) ∷ (prefetch_lacks m p b d v or false, 3) ∷ [])
      say (done_by (carried m p b d (Command.Prefetch v)))
  prefetch_same v =
      rw (or-none (eqb (v / 2 ^ 14 % 2) 1), or-none (not both), or-none (prefetch_lacks m p b d v))
      (gate (λ k. prefetch_plan v k d.registers.control d.pending) _ _ (λ k. refl) (lent_ok m) (money_ok p b)
      (λ h. ready _ (Plan.Attempt Access.Read Reason.Prefetch (page_at v)) _ _ _ _ _ _ (bit_clear (v / 2 ^ 14))
      (lastly (prefetch_lacks m p b d v) _ (prefetched m p b d v) (prefetch_ok v h) (lacks-prefetch m p b d v))))

module _ (m : Lent) (p : Prices) (b : Bill) (d : Device) (v : ℕ) where
  abbrev Written : ℕ → Type 0
  Written o = obeyed m p b d (command_of o v) ≡ refuses (rest (write_refusals m p b d o v)) (say m p b d) (done_by (carried m p b d (command_of o v)))

  elsewhere : (o : ℕ) → no_register o ≡ true → Written o
  elsewhere o h = ap (obeyed m p b d) (command_elsewhere o v h) ∙ sym (refused_here _ _ _ _ _ h)

  -- in the order of Table 3
  written : (o : ℕ) → Written o
  unfolding command_of listed pick no_register ◌and◌ ◌or◌ refuses is_malformed is_untimely write_lacks load_command setting_at
  written =
      by_offset Written
      (prefetch_same m p b d v)
      refl
      (control_same m p b d v)
      refl
      refl
      refl
      (acknowledge_same m p b d (eqb (v % 2) 1))
      refl
      refl
      (lock_same m p b d v)
      (load_same m p b d (v % 4) (omega arith))
      refl
      refl
      refl
      refl
      (bit_same m p b d v Tending.Flush refl)
      (bit_same m p b d v Tending.FlushEntry refl)
      refl
      refl
      refl
      refl
      elsewhere

  -- a register write: its list of refusals
  pub write_done : (o : ℕ) → run m p b d (write_plan (in_range d) (lent_ok m) (money_ok p b) d.registers.control d.pending (command_of o v)) ≡ done_by (write_of m p b d o v)
  unfolding write_of
  write_done o =
      within m p b d _ _ (done_by (carried m p b d (command_of o v))) (in_range d) (written o)
      ∙ sym (refuses-map done_by (write_refusals m p b d o v) (refused_with d b) (carried m p b d (command_of o v)))

module _ (d : Device) where
  abbrev shown : ℕ → Answer
  shown o = value_at o d.registers d.bank.lock d.bank.victim d.pending

  abbrev Shown : ℕ → Type 0
  Shown o = told d (shown o) ≡ refuses (rest (read_refusals d o)) (told_refused d) (told d (shown o))

  nowhere : (o : ℕ) → no_register o ≡ true → Shown o
  nowhere o h = ap (told d) (value_elsewhere o d.registers d.bank.lock d.bank.victim d.pending h) ∙ sym (refused_here _ _ _ _ _ h)

  shows : (o : ℕ) → Shown o
  unfolding value_at listed pick no_register ◌and◌ refuses
  shows =
      by_offset Shown
      refl refl refl refl refl refl refl refl refl refl refl refl refl refl refl refl refl refl refl refl refl
      nowhere

  read_is : (o : ℕ) → in_range d ≡ true → told d (shown o) ≡ read_of d o
  unfolding read_of
  read_is o h = shows o ∙ sym (passed _ _ _ _ _ (ap not h))

module _ (m : Lent) (p : Prices) (b : Bill) (d : Device) where
  -- a register read
  pub read_done : (o : ℕ) → run m p b d (read_plan (in_range d) o) ≡ done_told b (read_of d o)
  unfolding read_of
  read_done o =
      pick_by (λ x. run m p b d x ≡ done_told b (read_of d o)) (in_range d) _ _
      (λ h. ap (done_told b) (read_is d o h))
      (λ h. ap (done_told b) (sym (refused_here _ _ _ _ _ (ap not h))))

  -- a drop
  pub drop-done : run m p b d (drop_plan (in_range d) d.pending) ≡ done_told b (drop_of d)
  unfolding drop_of pick refuses
  drop-done = by (in_range d) (idle d.pending)
    where
      by : (ok i : Bool) → run m p b d (pick ok (pick i (Plan.Refused 7) Plan.Drop) (Plan.Refused 8)) ≡ done_told b (refuses ((not ok, 8) ∷ (i, 7) ∷ []) (told_refused d) (told (cleared d) Answer.Done))
      by true true = refl
      by true false = refl
      by false i = refl

  -- a shift report
  abbrev pub reporting : Result ℤ ShiftError → Place → Done
  reporting s f = uncharged d.registers d.bank d.pending b (Said.Reported s) f

  pub shift-done : (va : VirtualAddress) → run m p b d (shift_plan (in_range d) (lent_ok m) va) ≡ reporting (shift_of m d va) (shift_from m d va)
  unfolding shift_of shift_from pick refuses
  shift-done va = by (in_range d) (leb limit va.0) (lent_ok m) refl
    where
      by : (ok v l : Bool) → lent_ok m ≡ l
          → let rs : Refusals = (not ok, 8) ∷ (v, 1) ∷ (not l, 4) ∷ (is_missing (look m d va).found, 3) ∷ [] in
          run m p b d (pick ok (pick v (Plan.Unreported 1) (pick l (Plan.Shift va) (Plan.Unreported 4))) (Plan.Unreported 8))
          ≡ reporting (refuses rs (λ (k : ℕ). Err (ShiftError.Refused k)) (shift_by va (look m d va).found)) (refuses rs (λ (k : ℕ). Place.Nowhere) (last_place (look m d va).reads))
      by false v l h = refl
      by true true l h = refl
      by true false false h = refl
      by true false true h = ap₂ reporting (shift_last m d va h) (from_last m d va h)
