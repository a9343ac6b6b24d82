-- What a posting does to the meters. Assumes nothing.
use Rattle.meters.specs.Names.{◌≡◌, ℕ, ◌+◌, ◌≤◌}
use Rattle.meters.proofs.Names.{Meters, Tally, posted}
use native.Mathlib.Omega.{arith}
use Rattle.meters.specs.Posted.{stop, stopped, no_meters, no_tally, BelowStop}

-- one count: nothing added leaves it, it never falls and never passes its stop, and below the stop it is the sum
stopped-zero : (a : ℕ) → a ≤ stop → stopped a 0 ≡ a
stopped-zero a h = omega arith

stopped-ge : (a b : ℕ) → a ≤ stop → a ≤ stopped a b
stopped-ge a b h = omega arith

stopped-le : (a b : ℕ) → stopped a b ≤ stop
stopped-le a b = omega arith

stopped_sum : (a b : ℕ) → a + b ≤ stop → stopped a b ≡ a + b
stopped_sum a b h = omega arith

-- meters that counted nothing are within their stops, and a posting keeps them there
pub none_within : BelowStop no_meters
none_within = record { fresh-le = omega arith; retries-le = omega arith; words-le = omega arith }

pub posted-within : (m : Meters) (t : Tally) → BelowStop (posted m t)
unfolding posted
posted-within m t = record {
  fresh-le = stopped-le m.fresh t.fresh;
  retries-le = stopped-le m.retries t.retries;
  words-le = stopped-le m.words t.words;
}

-- a zero tally changes nothing
pub posted-zero : (m : Meters) → BelowStop m → posted m no_tally ≡ m
unfolding posted
posted-zero m w = rw (stopped-zero m.fresh w.fresh-le, stopped-zero m.retries w.retries-le, stopped-zero m.words w.words-le)

-- no meter falls
pub posted-ge : (m : Meters) (t : Tally) → BelowStop m → (m.fresh ≤ (posted m t).fresh) × ((m.retries ≤ (posted m t).retries) × (m.words ≤ (posted m t).words))
unfolding posted
posted-ge m t w = (stopped-ge m.fresh t.fresh w.fresh-le, (stopped-ge m.retries t.retries w.retries-le, stopped-ge m.words t.words w.words-le))

-- while no sum is past the stop, each meter is the sum
pub posted_sum : (m : Meters) (t : Tally) → m.fresh + t.fresh ≤ stop → m.retries + t.retries ≤ stop → m.words + t.words ≤ stop
    → posted m t ≡ record { fresh = m.fresh + t.fresh; retries = m.retries + t.retries; words = m.words + t.words }
unfolding posted
posted_sum m t f r w = rw (stopped_sum m.fresh t.fresh f, stopped_sum m.retries t.retries r, stopped_sum m.words t.words w)
