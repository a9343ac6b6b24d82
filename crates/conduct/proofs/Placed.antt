-- Demand 2, where the last word of each call's walk comes from. Assumes nothing.
use Rattle.std.proofs.Common.{Option, Some, None}
use Rattle.conduct.specs.Names.{◌≡◌, Bool, true, false, ◌⊎◌, ◌≢◌, ℕ, eqb, ◌and◌, Lent, Place, Reads, LastLies, last_place, word_count}
use Rattle.conduct.specs.Names.{look, is_on, page_at, prefetch_at, Clear, request_refusals, write_refusals}
use Rattle.conduct.specs.Names.{shift_refusals, Call, request, write, read, drop-fault, shift, step, Access, VirtualAddress, Bill, Prices, Outcome, Device}
use Rattle.conduct.proofs.Names.{refl, sym, ◌∙◌, ap, subst, true≢false, false≢true, pick_by, pick_yes, pick_no, and_left, and_right, refuses_by}
use Rattle.conduct.proofs.Names.{clear_goes_on, is_missing, command_of, attempt_of, prefetched, carried, refused_with, lacks, request_of, write_of, said_refused}
use Rattle.conduct.proofs.Names.{Accepted, Attempted, nothing, attempt, prefetch, attempted, reads_for, walks_for, first_of, place_in, read_in}
use mathlib.Core.Logic.{inl, inr}
use Rattle.walk.specs.Walk.{read_at}
use Rattle.walk.specs.Statements.{LiesAt}
use Rattle.walk.proofs.Words.{walk_lies, none_where_missing}
use Rattle.unit.specs.Calls.{shift_from}
use Rattle.conduct.specs.Placed.{reads_asked, reads_of, walks_asked, walks_of, ComesFromLast, FromNowhere}
use Rattle.conduct.proofs.Tests.{rest}
use Rattle.conduct.proofs.Attempts.{walked_found}
use Rattle.conduct.proofs.Writes.{write_by_lem, prefetch-there}
use Rattle.conduct.proofs.Calls.{attempt-from, prefetch-from, accepted-request, accepted-write}
use Rattle.conduct.proofs.Refused.{accepted-when}

-- a call that is not refused comes from where the last word that it reads lies
pub from_last : (m : Lent) (d : Device) (b : Bill) (c : Call) → Accepted m d b c → (step m d b c).from ≡ last_place (reads_of m d c)
unfolding shift_from
from_last m d b (request va a p) =
    accepted-request m p b d (λ (x : Outcome). x.from ≡ last_place (reads_for m d va)) va a (λ c. attempt-from m p b d false va a c.1.1.1.1.1.0)
from_last m d b (write o v p) =
    accepted-write m p b d (λ (x : Outcome). x.from ≡ last_place (reads_asked m d (attempted d (write o v p)))) o v
    (write_by_lem m p b d v (λ (q : Attempted) (x : Outcome). x.from ≡ last_place (reads_asked m d q)) refl refl (attempt-from m p b d true) (prefetch-from m p b d v) o (λ _ _. refl))
from_last m d b (read o) = λ _. refl
from_last m d b drop-fault = λ _. refl
from_last m d b (shift va) = λ h. clear_goes_on _ _ (shift_refusals m d va) ((accepted-when m d b (shift va)).0 h)

-- and that word lies there
module _ (m : Lent) (d : Device) where
  for_lies : (va : VirtualAddress) → LastLies m (reads_for m d va) (last_place (reads_for m d va))
  unfolding reads_for
  for_lies va = pick_by (λ (r : Reads). LastLies m r (last_place r)) _ _ _ (λ _. walk_lies m va.0 _) (λ _. refl)

  asked_lies : (q : Attempted) → LastLies m (reads_asked m d q) (last_place (reads_asked m d q))
  asked_lies nothing = refl
  asked_lies (attempt again va a) = for_lies va
  asked_lies (prefetch va) = for_lies va

  call_lies : (c : Call) → LastLies m (reads_of m d c) (last_place (reads_of m d c))
  call_lies (request va a p) = asked_lies (attempted d (request va a p))
  call_lies (write o v p) = asked_lies (attempted d (write o v p))
  call_lies (read o) = refl
  call_lies drop-fault = refl
  call_lies (shift va) = walk_lies m va.0 _

pub comes_from_last : ComesFromLast
comes_from_last m d b c h = subst (LastLies m (reads_of m d c)) (sym (from_last m d b c h)) (call_lies m d c)

-- a refused call comes from nowhere
pub refused-nowhere : (m : Lent) (d : Device) (b : Bill) (c : Call) → said_refused (step m d b c).said ≡ true → (step m d b c).from ≡ Place.Nowhere
unfolding request_of write_of shift_from
refused-nowhere m d b (request va a p) h =
    refuses_by (refused_with d b) (attempt_of m p b false d va a) (λ (x : Outcome). x.from ≡ Place.Nowhere) (request_refusals m p b d va) (λ k. refl)
    (λ c. absurd (true≢false (sym h ∙ (accepted-when m d b (request va a p)).1 c)))
refused-nowhere m d b (write o v p) h =
    refuses_by (refused_with d b) (carried m p b d (command_of o v)) (λ (x : Outcome). x.from ≡ Place.Nowhere) (write_refusals m p b d o v) (λ k. refl)
    (λ c. absurd (true≢false (sym h ∙ (accepted-when m d b (write o v p)).1 c)))
refused-nowhere m d b (read o) h = refl
refused-nowhere m d b drop-fault h = refl
refused-nowhere m d b (shift va) h =
    refuses_by (λ (k : ℕ). Place.Nowhere) (last_place (look m d va).reads) (λ (x : Place). x ≡ Place.Nowhere) (shift_refusals m d va) (λ k. refl)
    (λ c. absurd (true≢false (sym h ∙ (accepted-when m d b (shift va)).1 c)))

-- so does one that makes no walk
module _ (m : Lent) (d : Device) where
  still_asked : (q : Attempted) → walks_asked d q ≡ false → last_place (reads_asked m d q) ≡ Place.Nowhere
  unfolding reads_for
  still_asked nothing h = refl
  still_asked (attempt again va a) h = ap last_place (pick_no _ _ _ h)
  still_asked (prefetch va) h = ap last_place (pick_no _ _ _ h)

  still_call : (c : Call) → walks_of d c ≡ false → last_place (reads_of m d c) ≡ Place.Nowhere
  still_call (request va a p) h = still_asked (attempted d (request va a p)) h
  still_call (write o v p) h = still_asked (attempted d (write o v p)) h
  still_call (read o) h = refl
  still_call drop-fault h = refl
  still_call (shift va) h = absurd (true≢false h)

-- a word that is read lies somewhere
abbrev Somewhere : Option (ℕ × Place) → Type 0
Somewhere (Some (w, (Place.OnChip k))) = Unit {0}
Somewhere (Some (w, (Place.External k))) = Unit {0}
Somewhere (Some (w, Place.Nowhere)) = ⊥
Somewhere None = Unit {0}

read_somewhere : (w : ℕ) (p : Place) → Somewhere (read_at w p)
read_somewhere w (Place.OnChip k) = tt
read_somewhere w (Place.External k) = tt
read_somewhere w Place.Nowhere = tt

module _ (m : Lent) where
  in_somewhere : (a : ℕ) → Somewhere (read_in m a)
  unfolding read_in
  in_somewhere a = read_somewhere _ (place_in m a)

  lies_somewhere : (a : ℕ) (p : Place) → LiesAt m a p → p ≢ Place.Nowhere
  lies_somewhere a p l e = subst Somewhere (subst (LiesAt m a) e l).word (in_somewhere a)

  last_somewhere : (r : Reads) (p : Place) → LastLies m r p → eqb (word_count r) 0 ≡ false → p ≢ Place.Nowhere
  last_somewhere Reads.Nothing p l h = absurd (true≢false h)
  last_somewhere (Reads.One s) p l h = lies_somewhere s.at.0 p l.1
  last_somewhere (Reads.Two s t) p l h = lies_somewhere t.at.0 p l.1

  look_somewhere : (d : Device) (va : VirtualAddress) → is_missing (look m d va).found ≡ false → last_place (look m d va).reads ≢ Place.Nowhere
  look_somewhere d va h = last_somewhere (look m d va).reads _ (walk_lies m va.0 _) (none_where_missing (read_in m) va.0 first_of _ ∙ h)

-- a call that walks and is not refused comes from somewhere
module _ (m : Lent) (p : Prices) (b : Bill) (d : Device) where
  for_somewhere : (va : VirtualAddress) → is_missing (look m d va).found ≡ false → walks_for d va ≡ true → last_place (reads_for m d va) ≢ Place.Nowhere
  unfolding reads_for
  for_somewhere va h w e = look_somewhere m d va h (sym (ap last_place (pick_yes _ _ _ w)) ∙ e)

  abbrev Walked : Attempted → Outcome → Type 0
  Walked q x = walks_asked d q ≡ true → x.from ≢ Place.Nowhere

  attempt_somewhere : (again : Bool) (va : VirtualAddress) (a : Access) → lacks m d va ≡ false → Walked (attempt again va a) (attempt_of m p b again d va a)
  attempt_somewhere again va a h w e = for_somewhere va (walked_found m d va h w) w (sym (attempt-from m p b d again va a h) ∙ e)

  prefetch_somewhere : (v : ℕ) → Clear (write_refusals m p b d prefetch_at v) → Walked (prefetch (page_at v)) (prefetched m p b d v)
  unfolding walks_for
  prefetch_somewhere v c w e =
      let n = and_left _ _ (and_right (is_on d.registers.control) _ w) in
      for_somewhere (page_at v) (rest _ _ n (prefetch-there m p b d v c)) w (sym (prefetch-from m p b d v c) ∙ e)

walks_somewhere : (m : Lent) (d : Device) (b : Bill) (c : Call) → Accepted m d b c → walks_of d c ≡ true → (step m d b c).from ≢ Place.Nowhere
walks_somewhere m d b (request va a p) =
    accepted-request m p b d (Walked m p b d (attempt false va a)) va a (λ c. attempt_somewhere m p b d false va a c.1.1.1.1.1.0)
walks_somewhere m d b (write o v p) =
    accepted-write m p b d (Walked m p b d (attempted d (write o v p))) o v
    (write_by_lem m p b d v (Walked m p b d) (λ h. absurd (false≢true h)) (λ h. absurd (false≢true h)) (attempt_somewhere m p b d true) (prefetch_somewhere m p b d v) o
    (λ _ _ h. absurd (false≢true h)))
walks_somewhere m d b (read o) = λ _ h. absurd (false≢true h)
walks_somewhere m d b drop-fault = λ _ h. absurd (false≢true h)
walks_somewhere m d b (shift va) =
    λ g _ e. look_somewhere m d va ((accepted-when m d b (shift va)).0 g).1.1.1.0 (sym (from_last m d b (shift va) g) ∙ e)

pub from-nowhere : FromNowhere
from-nowhere m d b c = (only (said_refused (step m d b c).said) (walks_of d c) refl refl, there (said_refused (step m d b c).said) refl)
  where
    only : (t w : Bool) → said_refused (step m d b c).said ≡ t → walks_of d c ≡ w → (step m d b c).from ≡ Place.Nowhere
        → (said_refused (step m d b c).said ≡ true) ⊎ (walks_of d c ≡ false)
    only true w f g e = inl f
    only false false f g e = inr g
    only false true f g e = absurd (walks_somewhere m d b c f g e)

    there : (t : Bool) → said_refused (step m d b c).said ≡ t → (said_refused (step m d b c).said ≡ true) ⊎ (walks_of d c ≡ false) → (step m d b c).from ≡ Place.Nowhere
    there t f (inl g) = refused-nowhere m d b c g
    there true f (inr g) = refused-nowhere m d b c f
    there false f (inr g) = from_last m d b c f ∙ still_call m d c g
