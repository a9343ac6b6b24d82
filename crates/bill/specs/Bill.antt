-- The walk bill (01, "Meters and the walk bill", and refusal 9). Its figures are binary64 values, and its operations
-- those of IEEE 754, in the order written here.
use Rattle.std.specs.Prelude.{◌≡◌, ◌∷◌}
use Rattle.bill.specs.Names.{ℕ, Bool, true, false, List, [], ◌and◌, sources, f0, prices_ok, row_of, word_price, side_read, fresh_side}
use Rattle.bill.specs.Names.{binary64, Place, Source, Reads, Prices, Seen, Bill}
use Rattle.std.specs.Float.Ieee.{add, fits}
pub use Rattle.bill.specs.Figures.{finite, f1, f⅛, miss_figure}
unfoldable pub use Rattle.bill.specs.Figures.{smoothed}

-- neither figure is infinite or NaN
abbrev pub bill_ok : Bill → Bool
bill_ok b = finite b.total and finite b.misses

-- refusal 9 holds where this is false
unfoldable pub money_ok : Prices → Bill → Bool
money_ok p b = prices_ok p and bill_ok b

-- a word of a row at its place: that memory's price on the total, and that memory's side read
unfoldable pub place_posted : Prices → Bill → Place → ℕ → Bill
place_posted p b (Place.OnChip k) row = record {
  total = add binary64 b.total (word_price p.onchip b.onchip row);
  misses = b.misses;
  onchip = side_read b.onchip row;
  external = b.external;
}
place_posted p b (Place.External k) row = record {
  total = add binary64 b.total (word_price p.external b.external row);
  misses = b.misses;
  onchip = b.onchip;
  external = side_read b.external row;
}
place_posted p b Place.Nowhere row = b

abbrev pub word_posted : Prices → Bill → Source → Bill
word_posted p b s = place_posted p b s.place (row_of s.at)

-- words in order
abbrev pub words_posted : Prices → Bill → List Source → Bill
words_posted p b [] = b
words_posted p b (s ∷ rest) = words_posted p (word_posted p b s) rest

-- the words of a walk
abbrev pub reads_posted : Prices → Bill → Reads → Bill
reads_posted p b r = words_posted p b (sources r)

-- a metered request or retry while the unit is on
unfoldable pub attempt_posted : Bill → Bool → Bill
attempt_posted b missed = record { total = b.total; misses = smoothed b.misses missed; onchip = b.onchip; external = b.external }

-- an attempt by what it did with the slots
abbrev pub seen_posted : Bill → Seen → Bill
seen_posted b Seen.Nothing = b
seen_posted b Seen.Match = attempt_posted b false
seen_posted b Seen.NoMatch = attempt_posted b true

-- all zero with no rows
abbrev pub fresh_bill : Bill
fresh_bill = record { total = f0; misses = f0; onchip = fresh_side; external = fresh_side }

-- both figures are f64 values (as those of every bill that a function is handed are) and finite
pub record Good (b : Bill) : Type 0 where
  pub total_fits : fits binary64 b.total ≡ true
  pub misses_fits : fits binary64 b.misses ≡ true
  pub finite_both : bill_ok b ≡ true
