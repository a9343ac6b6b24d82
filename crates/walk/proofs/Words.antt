-- The words that a walk read. Assumes nothing.
use Rattle.std.proofs.Common.{Option, Some, None}
use Rattle.walk.specs.Names.{◌≡◌, ℕ, eqb, Lent, place_in, word_of, Place, Source, Reads, First, Table}
use Rattle.walk.proofs.Names.{refl, ap, subst, first_of, coarse_at, fine_at, read_at, read_in, source_at, after_second, by_first, after_first}
use Rattle.walk.proofs.Names.{walk_from, walk_in, is_missing}
use Rattle.memory.specs.Memory.{Inside, part_at}
use Rattle.memory.specs.Reads.{last_place, word_count}
use Rattle.memory.proofs.Places.{inside}
use Rattle.walk.proofs.Laws.{second-there}
use Rattle.walk.specs.Statements.{LiesAt, ReadLies, LastLies}

-- a word that is read lies where it is said to
module _ (m : Lent) (a : ℕ) where
  lies_by : (p : Place) → place_in m a ≡ p → ReadLies m a (read_at (word_of (part_at m p)) p)
  unfolding read_in
  lies_by (Place.OnChip k) e = record { inside = subst (Inside m a) e (inside m a); word = ap (λ (p : Place). read_at (word_of (part_at m p)) p) e }
  lies_by (Place.External k) e = record { inside = subst (Inside m a) e (inside m a); word = ap (λ (p : Place). read_at (word_of (part_at m p)) p) e }
  lies_by Place.Nowhere e = tt

  read_lies : ReadLies m a (read_in m a)
  unfolding read_in
  read_lies = lies_by (place_in m a) refl

-- so does the last word of a walk
module _ (m : Lent) (va : ℕ) where
  abbrev Last : Reads → Type 0
  Last r = LastLies m r (last_place r)

  last_second : (t : Table) (s : Source) (b : ℕ) (r : Option (ℕ × Place)) → ReadLies m b r → Last (after_second t s b r).reads
  last_second t s b None h = refl
  last_second t s b (Some (w, p)) h = (refl, h)

  last_first : (s : Source) (d : First) → LiesAt m s.at.0 s.place → Last (by_first (read_in m) va s d).reads
  last_first s First.Fault h = (refl, h)
  last_first s (First.Whole p) h = (refl, h)
  last_first s (First.Coarse t) h = last_second Table.Coarse s (coarse_at t va) (read_in m (coarse_at t va)) (read_lies m (coarse_at t va))
  last_first s (First.Fine t) h = last_second Table.Fine s (fine_at t va) (read_in m (fine_at t va)) (read_lies m (fine_at t va))

  last_after : (a : ℕ) (r : Option (ℕ × Place)) → ReadLies m a r → Last (after_first (read_in m) first_of va a r).reads
  last_after a None h = refl
  last_after a (Some (w, p)) h = last_first (source_at a p) (first_of w) h

  pub walk_lies : (base : ℕ) → Last (walk_in m base va).reads
  unfolding walk_from
  walk_lies base = last_after _ (read_in m _) (read_lies m _)

-- no word counts as read exactly where one is missing
module _ (rd : ℕ → Option (ℕ × Place)) (va : ℕ) where
  counted_second : (t : Table) (s : Source) (b : ℕ) (r : Option (ℕ × Place)) → eqb (word_count (after_second t s b r).reads) 0 ≡ is_missing (after_second t s b r).found
  counted_second t s b None = refl
  counted_second t s b (Some (w, p)) = second-there t w

  counted_first : (s : Source) (d : First) → eqb (word_count (by_first rd va s d).reads) 0 ≡ is_missing (by_first rd va s d).found
  counted_first s First.Fault = refl
  counted_first s (First.Whole p) = refl
  counted_first s (First.Coarse t) = counted_second Table.Coarse s (coarse_at t va) (rd (coarse_at t va))
  counted_first s (First.Fine t) = counted_second Table.Fine s (fine_at t va) (rd (fine_at t va))

  counted_after : (dec : ℕ → First) (a : ℕ) (r : Option (ℕ × Place)) → eqb (word_count (after_first rd dec va a r).reads) 0 ≡ is_missing (after_first rd dec va a r).found
  counted_after dec a None = refl
  counted_after dec a (Some (w, p)) = counted_first (source_at a p) (dec w)

  pub none_where_missing : (dec : ℕ → First) (a : ℕ) → eqb (word_count (walk_from rd dec va a).reads) 0 ≡ is_missing (walk_from rd dec va a).found
  unfolding walk_from
  none_where_missing dec a = counted_after dec a (rd a)
