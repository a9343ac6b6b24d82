-- Each request and each retry that the paper does not refuse is answered, as the list says. Assumes nothing.
use Rattle.demands.specs.Demands.Names.{◌≡◌, true, List, [], ◌∷◌, ℕ, Lent, mappings, Device, step, BytesFit, BilledCall, after}
use Rattle.demands.proofs.Names.{sym, ◌∙◌, ap, subst, holder, range-kept, started, look_in, start_control, start-on, start-walking}
use Rattle.demands.proofs.Names.{image_translates, ValuesFit, Session}
use Rattle.unit.specs.Device.{in_range}
use Rattle.coherence.specs.Agreement.{Coherent, Below}
use Rattle.coherence.proofs.Sessions.{coherent_after}
use Rattle.coherence.proofs.Started.{start_in-range}
use Rattle.coherence.proofs.Answered.{request-answered, retry_answered}
use Rattle.translates.specs.Statements.{Translates}
use Rattle.demands.specs.Answering.{RequestsAnswered, RetriesAnswered}
use Rattle.demands.proofs.Lists.{list-said, as_list, gives_found, start_is, base_low, base_128}

-- every device of a session is in range
ranges : (m : Lent) → BytesFit m → (cs : List BilledCall) → ValuesFit cs → (d : Device) → in_range d ≡ true → in_range (after m d cs) ≡ true
ranges m f [] g d h = h
ranges m f (c ∷ cs) g d h =
    ranges m f cs g.1 (step m d c.0 c.1).device (range-kept m d c.0 c.1 f g.0 h)

module _ (rs : List ℕ) (base : ℕ) (m : Lent) (d : Device) (s : Session rs base m d) where
  owes : Translates m base (mappings rs)
  owes = image_translates rs base s.room s.len m s.bytes s.accepted s.lent s.standing

  device-is : d ≡ after m (started (start_control s.v) base) s.calls
  device-is = s.device ∙ ap (λ (x : Device). after m x s.calls) (start_is rs base s.room s.len s.accepted m s.v s.p s.b s.on)

  coherent : Coherent (look_in m base) base d
  coherent =
      subst (Coherent (look_in m base) base) (sym device-is)
      (coherent_after m (start_control s.v) base (start-on s.v) (start-walking s.v) owes.uniform s.calls s.admitted)

  in_range_lem : in_range d ≡ true
  in_range_lem =
      subst (λ (x : Device). in_range x ≡ true) (sym device-is)
      (ranges m s.lent-bytes s.calls s.values (started (start_control s.v) base)
      (start_in-range s.v base (base_low rs base s.room s.len s.accepted) (base_128 rs base s.room s.len s.accepted)))

pub requests-answered : RequestsAnswered
requests-answered rs base m d s p b va a q l money =
    let t = owes rs base m d s in
    let g = t.gives va l in
    as_list _ _ ((request-answered m base p b d va a (coherent rs base m d s) (record { range = in_range_lem rs base m d s; memories = s.lent; money = money }) q l
    (gives_found (holder (mappings rs) va) va (look_in m base va).found g)).plainly
    ∙ list-said (look_in m base) (mappings rs) va a g)

pub retries-answered : RetriesAnswered
retries-answered rs base m d s p b v k va a q f o money =
    let t = owes rs base m d s in
    let h = coherent rs base m d s in
    let g = t.gives va (subst Below q h.below) in
    as_list _ _ ((retry_answered m base p b d v k va a h (record { range = in_range_lem rs base m d s; memories = s.lent; money = money }) q f o
    (gives_found (holder (mappings rs) va) va (look_in m base va).found g)).plainly
    ∙ list-said (look_in m base) (mappings rs) va a g)
