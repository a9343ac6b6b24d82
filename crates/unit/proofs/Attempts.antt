-- A walk over memories that were tried, and an attempt that lacks a word: it says 3 of itself. Assumes nothing.
use Rattle.decision.specs.declared.ShiftError.{ShiftError}
use Rattle.std.proofs.Common.{Result, Ok, Err}
use Rattle.walk.specs.declared.Unfound.{Unfound}
use Rattle.walk.specs.declared.Page.{Page}
use Rattle.std.proofs.Common.{Option, Some, None}
use Rattle.unit.specs.Names.{◌≡◌, Bool, true, not, [], ◌∷◌, ℕ, eqb, ◌and◌, Place, Reads, word_count, last_place, is_missing, looked_up, stall, is_prefetch, is_on, is_walking, page_at}
use Rattle.unit.specs.Names.{shift_by, Access, VirtualAddress, Lent, lent_ok, Walked, Bill, Prices, Fault, Device}
use Rattle.unit.proofs.Names.{refl, sym, ◌∙◌, ap, not-true, pick_no, and_left, and_right, refuses, refused_with, look, attempt_of, lacks}
use Rattle.unit.proofs.Names.{retry_lacks, prefetched, held_retried}
use mathlib.Core.Bool.{false≢true}
use Rattle.walk.specs.Descriptors.{first_of}
use Rattle.walk.specs.Walk.{read_in, walk_within}
use Rattle.walk.proofs.Walks.{walk_ok}
use Rattle.walk.proofs.Words.{none_where_missing}
use Rattle.decision.specs.Decisions.{by_found}
use Rattle.decision.specs.Prefetches.{prefetch_found}
use Rattle.decision.proofs.Joins.{decided-walk, prefetch-on}
use Rattle.unit.specs.Device.{concluded}
use Rattle.unit.specs.Calls.{no_match, prefetch_ends}
use Rattle.unit.proofs.Refusing.{last_same}

matched_nothing : (x : Option ℕ) → no_match x ≡ true → x ≡ None
matched_nothing (Some i) h = absurd (false≢true h)
matched_nothing None h = refl

found-missing : (f : Result Page Unfound) → is_missing f ≡ true → f ≡ Err Unfound.Missing
found-missing (Ok p) h = absurd (false≢true h)
found-missing (Err Unfound.NoPage) h = absurd (false≢true h)
found-missing (Err Unfound.Missing) h = refl

none_read : (r : Reads) → eqb (word_count r) 0 ≡ true → last_place r ≡ Place.Nowhere
none_read Reads.Nothing h = refl
none_read (Reads.One s) h = absurd (false≢true h)
none_read (Reads.Two s t) h = absurd (false≢true h)

-- memories that were tried lose nothing by being tried again
pub look_ok : (m : Lent) (d : Device) (va : VirtualAddress) → lent_ok m ≡ true → walk_within m d.registers.base.0 va.0 ≡ look m d va
look_ok m d va h = sym (walk_ok m h d.registers.base.0 va.0)

-- a request or a retry
module _ (m : Lent) (p : Prices) (b : Bill) (again : Bool) (d : Device) (va : VirtualAddress) (a : Access) where
  pub lacks-attempt : lacks m d va ≡ true → attempt_of m p b again d va a ≡ refused_with d b 3
  unfolding lacks by_found
  lacks-attempt h =
      let on = is_on d.registers.control in
      let none = no_match (looked_up d.bank.cam va) in
      let walking = is_walking d.registers.control in
      let gone = is_missing (look m d va).found in
      let k = and_right on (none and walking and gone) h in
      let l = and_right none (walking and gone) k in
      ap (concluded p b again d va a)
      (decided-walk (look m d va) d.registers.control d.bank.cam d.bank.ram va a
      (and_left on (none and walking and gone) h)
      (matched_nothing (looked_up d.bank.cam va) (and_left none (walking and gone) k))
      (and_left walking gone l)
      ∙ ap (by_found va a (look m d va).reads) (found-missing (look m d va).found (and_right walking gone l)))

-- the fault that is pending, retried
module _ (m : Lent) (p : Prices) (b : Bill) (d : Device) (k : Fault) (va : VirtualAddress) (a : Access) where
  pub lacks_retry : retry_lacks m d (Some (stall k va a)) ≡ true → held_retried m p b d k va a ≡ refused_with d b 3
  lacks_retry h =
      let t = not (is_prefetch k) in
      pick_no _ _ _ (not-true (is_prefetch k) (and_left t (lacks m d va) h))
      ∙ lacks-attempt m p b true d va a (and_right t (lacks m d va) h)

-- a prefetch
module _ (m : Lent) (p : Prices) (b : Bill) (d : Device) (v : ℕ) where
  abbrev pub prefetch_lacks : Bool
  prefetch_lacks = no_match (looked_up d.bank.cam (page_at v)) and is_missing (look m d (page_at v)).found

  pub lacks-prefetch : prefetch_lacks ≡ true → prefetched m p b d v ≡ refused_with d b 3
  unfolding prefetch_found
  lacks-prefetch h =
      let none = no_match (looked_up d.bank.cam (page_at v)) in
      let gone = is_missing (look m d (page_at v)).found in
      ap (prefetch_ends p b d v)
      (prefetch-on (look m d (page_at v)) d.bank.cam (page_at v) None (matched_nothing (looked_up d.bank.cam (page_at v)) (and_left none gone h))
      ∙ ap (prefetch_found (page_at v) (look m d (page_at v)).reads) (found-missing (look m d (page_at v)).found (and_right none gone h)))

-- the shift report
module _ (m : Lent) (d : Device) (va : VirtualAddress) where
  pub shift_last : lent_ok m ≡ true
      → shift_by va (walk_within m d.registers.base.0 va.0).found ≡ refuses ((is_missing (look m d va).found, 3) ∷ []) (λ (k : ℕ). Err (ShiftError.Refused k)) (shift_by va (look m d va).found)
  shift_last h =
      last_same _ _ _ _ _ (ap (λ (w : Walked). shift_by va w.found) (look_ok m d va h))
      (λ q. ap (shift_by va) (found-missing (look m d va).found q))

  -- a walk that misses a word counts none as read
  pub from_last : lent_ok m ≡ true
      → last_place (walk_within m d.registers.base.0 va.0).reads
      ≡ refuses ((is_missing (look m d va).found, 3) ∷ []) (λ (k : ℕ). Place.Nowhere) (last_place (look m d va).reads)
  from_last h =
      last_same _ _ _ _ _ (ap (λ (w : Walked). last_place w.reads) (look_ok m d va h))
      (λ q. none_read (look m d va).reads (none_where_missing (read_in m) va.0 first_of _ ∙ q))
