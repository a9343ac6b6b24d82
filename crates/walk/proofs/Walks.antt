-- The plain walk over readings that agree, and over lent memories. Assumes nothing.
use Rattle.std.proofs.Common.{Option, Some, None}
use Rattle.walk.specs.Names.{◌≡◌, true, false, ℕ, Lent, word_of, Place, Source, First, Table}
use Rattle.walk.proofs.Names.{refl, sym, ◌∙◌, ap, first_of, coarse_at, fine_at, read_at, read_in, read_within, source_at, after_second, by_first}
use Rattle.walk.proofs.Names.{after_first, walk_from, walk_in, walk_within, ProperFirst, Proper}
use Rattle.memory.specs.Memory.{lent_ok, part_at}
use Rattle.memory.proofs.Places.{place_ok, place_refused}
use Rattle.walk.specs.Walk.{missing, walk_of}
use Rattle.walk.specs.Statements.{nowhere, bare, moved_read, moved_source, moved_walked, AgreeBelow, AgreeAfter}
use Rattle.walk.proofs.Laws.{first-proper, second-proper}

-- readings that agree at the words read walk alike
module _ (rd rd' : ℕ → Option (ℕ × Place)) (dec : ℕ → First) (va a : ℕ) where
  below : (s : Source) (d : First) → AgreeBelow rd rd' va d → by_first rd va s d ≡ by_first rd' va s d
  below s First.Fault e = refl
  below s (First.Whole p) e = refl
  below s (First.Coarse t) e = ap (after_second Table.Coarse s (coarse_at t va)) e
  below s (First.Fine t) e = ap (after_second Table.Fine s (fine_at t va)) e

  after : (r : Option (ℕ × Place)) → AgreeAfter rd rd' dec va r → after_first rd dec va a r ≡ after_first rd' dec va a r
  after None e = refl
  after (Some (w, p)) e = below (source_at a p) (dec w) e

  pub alike_at : rd a ≡ rd' a → AgreeAfter rd rd' dec va (rd a) → walk_from rd dec va a ≡ walk_from rd' dec va a
  unfolding walk_from
  alike_at e f = after (rd a) f ∙ ap (after_first rd' dec va a) e

-- readings that agree everywhere walk alike
module _ (rd rd' : ℕ → Option (ℕ × Place)) (e : (x : ℕ) → rd x ≡ rd' x) (dec : ℕ → First) (va a : ℕ) where
  agree-below : (d : First) → AgreeBelow rd rd' va d
  agree-below First.Fault = tt
  agree-below (First.Whole p) = tt
  agree-below (First.Coarse t) = e (coarse_at t va)
  agree-below (First.Fine t) = e (fine_at t va)

  agree_after : (r : Option (ℕ × Place)) → AgreeAfter rd rd' dec va r
  agree_after None = tt
  agree_after (Some (w, p)) = agree-below (dec w)

  pub alike : walk_from rd dec va a ≡ walk_from rd' dec va a
  alike = alike_at rd rd' dec va a (e a) (agree_after (rd a))

-- words that lie elsewhere are walked alike: what is found is the same, and each word read lies there
module _ (f : Place → Place) (dec : ℕ → First) (va a : ℕ) where
  second_moved : (t : Table) (s : Source) (b : ℕ) (r : Option (ℕ × Place)) → after_second t (moved_source f s) b (moved_read f r) ≡ moved_walked f (after_second t s b r)
  second_moved t s b None = refl
  second_moved t s b (Some (w, p)) = refl

  module _ (rd : ℕ → Option (ℕ × Place)) where
    first_moved : (s : Source) (d : First) → by_first (λ x. moved_read f (rd x)) va (moved_source f s) d ≡ moved_walked f (by_first rd va s d)
    first_moved s First.Fault = refl
    first_moved s (First.Whole p) = refl
    first_moved s (First.Coarse t) = second_moved Table.Coarse s (coarse_at t va) (rd (coarse_at t va))
    first_moved s (First.Fine t) = second_moved Table.Fine s (fine_at t va) (rd (fine_at t va))

    after_moved : (r : Option (ℕ × Place)) → after_first (λ x. moved_read f (rd x)) dec va a (moved_read f r) ≡ moved_walked f (after_first rd dec va a r)
    after_moved None = refl
    after_moved (Some (w, p)) = first_moved (source_at a p) (dec w)

    walk_moved : walk_from (λ x. moved_read f (rd x)) dec va a ≡ moved_walked f (walk_from rd dec va a)
    unfolding walk_from
    walk_moved = after_moved (rd a)

  -- readings that agree but for places walk alike but for places
  pub same_moved : (rd rd' : ℕ → Option (ℕ × Place)) → ((x : ℕ) → moved_read f (rd x) ≡ moved_read f (rd' x)) → moved_walked f (walk_from rd dec va a) ≡ moved_walked f (walk_from rd' dec va a)
  same_moved rd rd' e = sym (walk_moved rd) ∙ alike (λ x. moved_read f (rd x)) (λ x. moved_read f (rd' x)) e dec va a ∙ walk_moved rd'

-- what a walk finds depends on the words alone, not on the places that hold them
pub same_words : (rd rd' : ℕ → Option (ℕ × Place)) → ((x : ℕ) → bare (rd x) ≡ bare (rd' x)) → (dec : ℕ → First) (va a : ℕ) → (walk_from rd dec va a).found ≡ (walk_from rd' dec va a).found
same_words rd rd' e dec va a = ap (λ w. w.found) (same_moved nowhere dec va a rd rd' e)

-- a page that a walk finds starts at its frame and has two bits of access
module _ (rd : ℕ → Option (ℕ × Place)) (va : ℕ) where
  proper-second : (t : Table) (s : Source) (b : ℕ) (r : Option (ℕ × Place)) → Proper (after_second t s b r).found
  proper-second t s b None = tt
  proper-second t s b (Some (w, p)) = second-proper t w

  proper-first : (s : Source) (d : First) → ProperFirst d → Proper (by_first rd va s d).found
  proper-first s First.Fault h = tt
  proper-first s (First.Whole p) h = h
  proper-first s (First.Coarse t) h = proper-second Table.Coarse s (coarse_at t va) (rd (coarse_at t va))
  proper-first s (First.Fine t) h = proper-second Table.Fine s (fine_at t va) (rd (fine_at t va))

  proper-after : (dec : ℕ → First) → ((w : ℕ) → ProperFirst (dec w)) → (a : ℕ) (r : Option (ℕ × Place)) → Proper (after_first rd dec va a r).found
  proper-after dec h a None = tt
  proper-after dec h a (Some (w, p)) = proper-first (source_at a p) (dec w) (h w)

  pub walk-proper : (base : ℕ) → Proper (walk_of rd base va).found
  unfolding walk_from
  walk-proper base = proper-after first_of first-proper _ (rd _)

-- memories that are not refused lose nothing by being tried, in refused ones every word is missing
module _ (m : Lent) where
  pub read_ok : lent_ok m ≡ true → (a : ℕ) → read_in m a ≡ read_within m a
  unfolding read_in read_within
  read_ok h a = ap (λ (p : Place). read_at (word_of (part_at m p)) p) (place_ok m a h)

  pub read-refused : lent_ok m ≡ false → (a : ℕ) → read_in m a ≡ None
  unfolding read_in
  read-refused h a = ap (λ (p : Place). read_at (word_of (part_at m p)) p) (place_refused m a h)

  pub walk_ok : lent_ok m ≡ true → (base va : ℕ) → walk_in m base va ≡ walk_within m base va
  walk_ok h base va = alike (read_in m) (read_within m) (read_ok h) first_of va _

  pub walk_refused : lent_ok m ≡ false → (base va : ℕ) → walk_in m base va ≡ missing
  unfolding walk_from
  walk_refused h base va = ap (after_first (read_in m) first_of va _) (read-refused h _)

pub ruleset tried = (walk_ok, walk_refused)
