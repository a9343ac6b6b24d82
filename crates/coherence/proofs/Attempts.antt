-- A request or a retry answers what the walk answers, and with a prefetch it keeps the slots in agreement. Assumes
-- nothing.
use Rattle.std.proofs.Common.{Result, Ok, Err, Option, Some, None}
use Rattle.walk.specs.declared.Unfound.{Unfound}
use Rattle.coherence.specs.Names.{ℕ, ◌*◌, ◌%◌, ◌^◌, ◌<◌, ◌≡◌, Bool, limit, slots, by_walk, Access, VirtualAddress, Lent, Bill, Prices, Stall}
use Rattle.coherence.specs.Names.{Answer, Device, Look}
use Rattle.coherence.proofs.Names.{arith, refl, sym, ◌∙◌, ap, subst, pick_yes, filled, InRange, by_found, Reads, Page, Walked, attempt_of}
use Rattle.coherence.proofs.Names.{plain, Below, Coherent, Uniform, look_in}
use Rattle.page.specs.Words.{made_words}
use Rattle.walk.specs.Distances.{Proper}
use Rattle.walk.specs.Walk.{read_in}
use Rattle.walk.proofs.Walks.{walk-proper}
use Rattle.lanes.specs.Lanes.{looked_up}
use Rattle.bank.specs.Changes.{entry_filled}
use Rattle.lanes.proofs.Searches.{Lowest, lowest}
use Rattle.decision.specs.Decisions.{by_matched, settled}
use Rattle.decision.specs.Prefetches.{page_at, prefetch_found, prefetch_matched, prefetch_decided}
use Rattle.decision.proofs.Joins.{decided-on}
use Rattle.decision.specs.declared.Decision.{Decision}
use Rattle.unit.specs.Device.{look, applied, decided_by}
use Rattle.unit.specs.Calls.{prefetched}
use Rattle.coherence.proofs.Slots.{Held, made_agrees, fill_agrees}

-- a fault is pending anew only at the address that was asked for
settled-below : (va : VirtualAddress) (a : Access) (q : Option Stall) (r : Answer) → va.0 < limit → Below q → Below (settled va a q r)
settled-below va a q (Answer.Address x) l h = tt
settled-below va a q (Answer.Fault k) l h = l
settled-below va a q (Answer.Value x) l h = h
settled-below va a q Answer.Done l h = h
settled-below va a q (Answer.Refused k) l h = h

module _ (m : Lent) (base : ℕ) where
  abbrev walked : Look
  walked = look_in m base

  -- the walk from the base register is the walk from the base
  pub same_walk : (d : Device) → Coherent walked base d → (va : VirtualAddress) → look m d va ≡ walked va
  same_walk d h va = ap (λ (n : ℕ). look_in m n va) h.base-is

  module _ (d : Device) (h : Coherent walked base d) (va : VirtualAddress) (a : Access) where
    abbrev Walks : Decision → Type 0
    Walks x = x.answer ≡ plain walked va a

    matched_answers : (x : Option ℕ) → Lowest d.bank.cam va slots 0 x → Walks (by_matched (look m d va) d.registers.control d.bank.cam d.bank.ram va a x)
    matched_answers (Some i) s = h.lanes.agree i va s.1.0 a
    matched_answers None s =
        ap (λ (x : Decision). x.answer) (pick_yes _ _ _ h.walking) ∙ ap (λ (w : Walked). (by_walk va a w).answer) (same_walk d h va)

    abbrev decision : Decision
    decision = decided_by (look m d va) d va a

    decision_is : decision ≡ by_matched (look m d va) d.registers.control d.bank.cam d.bank.ram va a (looked_up d.bank.cam va)
    decision_is = decided-on _ _ _ _ va a _ h.on refl

    -- an attempt answers what the walk answers
    pub attempt-answers : decision.answer ≡ plain walked va a
    attempt-answers = ap (λ (x : Decision). x.answer) decision_is ∙ matched_answers (looked_up d.bank.cam va) (lowest d.bank.cam va)

  module _ (u : Uniform limit walked) (d : Device) (h : Coherent walked base d) (r : InRange d.bank) (va : VirtualAddress) (l : va.0 < limit) where
    abbrev Fits : Decision → Type 0
    Fits x = Held walked (entry_filled d.bank x.fill)

    -- what a walk fills agrees
    page_fits : (p : Page) → (walked va).found ≡ Ok p → Proper (Ok p) → Held walked (filled d.bank (made_words p.kind p.frame p.access va))
    page_fits p e n = fill_agrees walked d.bank _ r (made_agrees walked u va p l e n.0) h.lanes

    found_fits : (a : Access) (s : Reads) (f : Result Page Unfound) → (walked va).found ≡ f → Proper f → Fits (by_found va a s f)
    unfolding by_found
    found_fits a s (Err Unfound.Missing) e n = h.lanes
    found_fits a s (Err Unfound.NoPage) e n = h.lanes
    found_fits a s (Ok p) e n = page_fits p e n

    prefetch_found_fits : (s : Reads) (f : Result Page Unfound) → (walked va).found ≡ f → Proper f → Fits (prefetch_found va s f)
    unfolding prefetch_found
    prefetch_found_fits s (Err Unfound.Missing) e n = h.lanes
    prefetch_found_fits s (Err Unfound.NoPage) e n = h.lanes
    prefetch_found_fits s (Ok p) e n = page_fits p e n

    walk_is : (walked va).found ≡ (look m d va).found
    walk_is = ap (λ (w : Walked). w.found) (sym (same_walk d h va))

    proper : Proper (look m d va).found
    proper = walk-proper (read_in m) va.0 d.registers.base.0

    matched_fits : (a : Access) (x : Option ℕ) → Fits (by_matched (look m d va) d.registers.control d.bank.cam d.bank.ram va a x)
    matched_fits a (Some i) = h.lanes
    matched_fits a None = subst Fits (sym (pick_yes _ _ _ h.walking)) (found_fits a (look m d va).reads (look m d va).found walk_is proper)

    prefetch_matched_fits : (x : Option ℕ) → Fits (prefetch_matched (look m d va) va x)
    prefetch_matched_fits (Some i) = h.lanes
    prefetch_matched_fits None = prefetch_found_fits (look m d va).reads (look m d va).found walk_is proper

    -- a decision whose fill agrees keeps every slot in agreement
    applied_keeps : (a : Access) (x : Decision) → Fits x → Coherent walked base (applied d x.fill x.answer va a)
    applied_keeps a x f = record {
      on = h.on;
      walking = h.walking;
      base-is = h.base-is;
      lanes = f;
      below = settled-below va a d.pending x.answer l h.below;
    }

    pub attempt_keeps : (p : Prices) (b : Bill) (again : Bool) (a : Access) → Coherent walked base (attempt_of m p b again d va a).device
    attempt_keeps p b again a =
        applied_keeps a (decision d h va a) (subst Fits (sym (decision_is d h va a)) (matched_fits a (looked_up d.bank.cam va)))

    prefetch_fits : Fits (prefetch_decided (look m d va) d.bank.cam va)
    unfolding prefetch_decided
    prefetch_fits = prefetch_matched_fits (looked_up d.bank.cam va)

  pub prefetch_keeps : Uniform limit walked → (d : Device) → Coherent walked base d → InRange d.bank → (p : Prices) (b : Bill) (v : ℕ) → Coherent walked base (prefetched m p b d v).device
  prefetch_keeps u d h r p b v =
      let at = page_at v in
      let l : v % 2 ^ 14 * 2 ^ 10 < limit = omega arith in
      applied_keeps u d h r at l Access.Read (prefetch_decided (look m d at) d.bank.cam at) (prefetch_fits u d h r at l)
