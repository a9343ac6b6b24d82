-- A walk with the bill after its words (01, "The walk", "Meters and the walk bill").
-- Internal, for the code: the machine that is signed is unit/specs/Calls.antt and Machine.antt.
use Rattle.std.specs.Prelude.{Err}
use Rattle.walk.specs.declared.Unfound.{Unfound}
use Rattle.perform.specs.Names.{word_count, last_place, Place, Prices, Bill, reads_posted, Walked, Charged}

-- what a walk finds, how many words it read, where the last one lies, and the bill with them on it
abbrev pub charged_of : Prices → Bill → Walked → Charged
charged_of p b w = record { found = w.found; words = word_count w.reads; from = last_place w.reads; bill = reads_posted p b w.reads }

-- and a walk that misses a word, of which nothing is charged
abbrev pub nothing_charged : Bill → Charged
nothing_charged b = record { found = Err Unfound.Missing; words = 0; from = Place.Nowhere; bill = b }
