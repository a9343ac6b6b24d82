-- What the laws of the plain walk speak of (01, "The walk").
use Rattle.std.specs.Prelude.{Option, Some, None, ◌≡◌}
use Rattle.walk.specs.Names.{ℕ, Lent, word_of, Place, Source, Reads, First, Walked}
use Rattle.memory.specs.Memory.{Inside, part_at}
use Rattle.walk.specs.Walk.{coarse_at, fine_at, read_in}

-- a word that was read, the words of a walk, and a walk, each word as if it lay where a map of places says
abbrev pub moved_read : (Place → Place) → Option (ℕ × Place) → Option (ℕ × Place)
moved_read f (Some (w, p)) = Some (w, f p)
moved_read f None = None

abbrev pub moved_source : (Place → Place) → Source → Source
moved_source f s = record { at = s.at; place = f s.place }

abbrev pub moved_reads : (Place → Place) → Reads → Reads
moved_reads f Reads.Nothing = Reads.Nothing
moved_reads f (Reads.One s) = Reads.One (moved_source f s)
moved_reads f (Reads.Two s t) = Reads.Two (moved_source f s) (moved_source f t)

abbrev pub moved_walked : (Place → Place) → Walked → Walked
moved_walked f w = record { found = w.found; reads = moved_reads f w.reads }

-- no place at all
abbrev pub nowhere : Place → Place
nowhere p = Place.Nowhere

-- a word without the place that holds it
abbrev pub bare : Option (ℕ × Place) → Option (ℕ × Place)
bare r = moved_read nowhere r

-- two readings agree at the second word that a first one asks for
abbrev pub AgreeBelow : (ℕ → Option (ℕ × Place)) → (ℕ → Option (ℕ × Place)) → ℕ → First → Type 0
AgreeBelow rd rd' va First.Fault = Unit
AgreeBelow rd rd' va (First.Whole p) = Unit
AgreeBelow rd rd' va (First.Coarse t) = rd (coarse_at t va) ≡ rd' (coarse_at t va)
AgreeBelow rd rd' va (First.Fine t) = rd (fine_at t va) ≡ rd' (fine_at t va)

-- and at the one that a read asks for, by a decoding of it
abbrev pub AgreeAfter : (ℕ → Option (ℕ × Place)) → (ℕ → Option (ℕ × Place)) → (ℕ → First) → ℕ → Option (ℕ × Place) → Type 0
AgreeAfter rd rd' dec va None = Unit
AgreeAfter rd rd' dec va (Some (w, p)) = AgreeBelow rd rd' va (dec w)

-- a word lies at a place: whole in its memory, where its address says, and what is read at that address is these four
-- bytes
pub record LiesAt (m : Lent) (a : ℕ) (p : Place) : Type 0 where
  pub inside : Inside m a p
  pub word : read_in m a ≡ Some (word_of (part_at m p), p)

-- so does a word that was read
abbrev pub ReadLies : Lent → ℕ → Option (ℕ × Place) → Type 0
ReadLies m a None = Unit
ReadLies m a (Some (w, p)) = LiesAt m a p

-- and the last of some words; where there is none, nothing lies anywhere
abbrev pub LastLies : Lent → Reads → Place → Type 0
LastLies m Reads.Nothing p = p ≡ Place.Nowhere
LastLies m (Reads.One s) p = (s.place ≡ p) × LiesAt m s.at.0 p
LastLies m (Reads.Two s t) p = (t.place ≡ p) × LiesAt m t.at.0 p
