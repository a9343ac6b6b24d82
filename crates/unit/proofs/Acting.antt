-- A plan by what was tested, done to a device, is the call. Assumes nothing.
use Rattle.unit.specs.Names.{◌≡◌, Bool, ℕ, ◌and◌, money_ok, command_of, Plan, Done, performed, Access, VirtualAddress, Lent, lent_ok, Bill, Prices, Device}
use Rattle.unit.proofs.Names.{sym, ◌∙◌, ap, request_plan, write_plan, read_plan, drop_plan, shift_plan, in_range, told_of, request_of, write_of, read_of}
use Rattle.unit.proofs.Names.{drop_of, shift_of, shift_from}
use mathlib.Core.Path.{ap₂, subst}
use Rattle.plan.specs.declared.Tried.{Tried}
use Rattle.bill.specs.Bill.{bill_ok}
use Rattle.unit.specs.Acts.{Fitted, Alone, outcome_of, tried_of}
use Rattle.unit.proofs.Planned.{reporting, request-done, write_done, read_done, drop-done, shift-done}
use Rattle.unit.proofs.Fitting.{request_fits, write_fits, read_fits, drop_fits, shift_fits}

module _ (m : Lent) (p : Prices) (b : Bill) (d : Device) (x : Plan) where
  abbrev run : Plan → Done
  run z = performed m p b d.registers d.bank d.pending z

  acts : (known : Plan) → x ≡ known → Fitted d known → (y o : Done) → (Fitted d x → y ≡ run x) → run known ≡ o → y ≡ o
  acts known e f y o a h = a (subst (Fitted d) (sym e) f) ∙ ap run e ∙ h

  -- by what was tested before the call
  module _ (t : Tried) (te : t ≡ tried_of m p b d) where
    tested : (f : Bool → Bool → Bool → Plan) → f t.device t.memories (t.prices and bill_ok t.bill) ≡ f (in_range d) (lent_ok m) (money_ok p b)
    unfolding money_ok
    tested f = ap (λ (u : Tried). f u.device u.memories (u.prices and bill_ok u.bill)) te

    pub request_acts : (va : VirtualAddress) (a : Access) → x ≡ request_plan t.device t.memories (t.prices and bill_ok t.bill) d.pending va a
        → (y : Done) → (Fitted d x → y ≡ run x) → outcome_of y ≡ request_of m p b d va a
    request_acts va a e y h =
        ap outcome_of (acts _ (e ∙ tested (λ u v w. request_plan u v w d.pending va a)) (request_fits d (lent_ok m) (money_ok p b) d.pending va a) y _ h (request-done m p b d va a))

    pub write_acts : (o v : ℕ) → x ≡ write_plan t.device t.memories (t.prices and bill_ok t.bill) d.registers.control d.pending (command_of o v)
        → (y : Done) → (Fitted d x → y ≡ run x) → outcome_of y ≡ write_of m p b d o v
    write_acts o v e y h =
        ap outcome_of (acts _ (e ∙ tested (λ u i w. write_plan u i w d.registers.control d.pending (command_of o v)))
        (write_fits d (lent_ok m) (money_ok p b) (command_of o v)) y _ h (write_done m p b d v o))

  pub shift_acts : (va : VirtualAddress) (ok l : Bool) → ok ≡ in_range d → l ≡ lent_ok m → x ≡ shift_plan ok l va
      → (y : Done) → (Fitted d x → y ≡ run x) → y ≡ reporting m p b d (shift_of m d va) (shift_from m d va)
  shift_acts va ok l oe le e y h =
      acts _ (e ∙ ap₂ (λ (u v : Bool). shift_plan u v va) oe le) (shift_fits d (in_range d) (lent_ok m) va) y _ h (shift-done m p b d va)

module _ (d : Device) (x : Plan) (ok : Bool) (oe : ok ≡ in_range d) (y : Done) (h : Fitted d x → Alone d x y) where
  pub read_acts : (o : ℕ) → x ≡ read_plan ok o → told_of y ≡ read_of d o
  read_acts o e =
      let f = subst (Fitted d) (sym e) (read_fits d ok o) in
      let a = h f in
      ap told_of (acts a.memories a.prices a.bill d x _ (e ∙ ap (λ (u : Bool). read_plan u o) oe) (read_fits d (in_range d) o)
      y _ (λ _. a.is) (read_done a.memories a.prices a.bill d o))

  pub drop_acts : x ≡ drop_plan ok d.pending → told_of y ≡ drop_of d
  drop_acts e =
      let f = subst (Fitted d) (sym e) (drop_fits d ok d.pending) in
      let a = h f in
      ap told_of (acts a.memories a.prices a.bill d x _ (e ∙ ap (λ (u : Bool). drop_plan u d.pending) oe) (drop_fits d (in_range d) d.pending)
      y _ (λ _. a.is) (drop-done a.memories a.prices a.bill d))
