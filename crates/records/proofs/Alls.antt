-- What is true of every mapping of a list. Assumes nothing.
use Rattle.records.specs.Names.{List, [], ◌∷◌, ◌++◌, ℕ, zero, suc, ◌<◌, length, get_or, Mapping}
use Rattle.records.proofs.Names.{arith, no_mapping}

abbrev pub All : (Mapping → Type 0) → List Mapping → Type 0
All P [] = Unit
All P (m ∷ ms) = P m × All P ms

pub all_map : {P Q : Mapping → Type 0} (ms : List Mapping) → ((m : Mapping) → P m → Q m) → All P ms → All Q ms
all_map [] f h = tt
all_map (m ∷ ms) f h = (f m h.0, all_map ms f h.1)

pub all_map2 : {P Q R : Mapping → Type 0} (ms : List Mapping) → ((m : Mapping) → P m → Q m → R m) → All P ms → All Q ms → All R ms
all_map2 [] f h g = tt
all_map2 (m ∷ ms) f h g = (f m h.0 g.0, all_map2 ms f h.1 g.1)

pub every : {P : Mapping → Type 0} (ms : List Mapping) → ((m : Mapping) → P m) → All P ms
every [] f = tt
every (m ∷ ms) f = (f m, every ms f)

pub all_at : (P : Mapping → Type 0) (ms : List Mapping) (i : ℕ) → All P ms → i < length ms → P (get_or ms i no_mapping)
all_at P [] i h l = absurd (omega arith)
all_at P (m ∷ ms) zero h l = h.0
all_at P (m ∷ ms) (suc i) h l = all_at P ms i h.1 (omega arith)

pub all_append : (P : Mapping → Type 0) (ms ns : List Mapping) → All P ms → All P ns → All P (ms ++ ns)
all_append P [] ns f g = g
all_append P (m ∷ ms) ns f g = (f.0, all_append P ms ns f.1 g)
