-- What the meters hold after a posting (01, "Meters and the walk bill").
use Rattle.std.specs.Prelude.{◌+◌, ◌≤◌}
use Rattle.meters.specs.Names.{ℕ, min}
use Rattle.meters.specs.declared.Meters.{Meters}
use Rattle.meters.specs.declared.Tally.{Tally}

-- where a meter stops
abbrev pub stop : ℕ
stop = 4294967295

-- a count and what is added to it, or the stop where that is less
abbrev pub stopped : ℕ → ℕ → ℕ
stopped a b = min (a + b) stop

-- nothing was counted yet
abbrev pub no_meters : Meters
no_meters = record { fresh = 0; retries = 0; words = 0 }

-- a call that adds nothing
abbrev pub no_tally : Tally
no_tally = record { fresh = 0; retries = 0; words = 0 }

-- each meter with what a call adds to it
unfoldable pub posted : Meters → Tally → Meters
posted m t = record {
  fresh = stopped m.fresh t.fresh;
  retries = stopped m.retries t.retries;
  words = stopped m.words t.words;
}

-- no meter is past its stop
pub record BelowStop (m : Meters) : Type 0 where
  pub fresh-le : m.fresh ≤ stop
  pub retries-le : m.retries ≤ stop
  pub words-le : m.words ≤ stop
