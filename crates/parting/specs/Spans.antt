-- What the code's loops over two images rest on.
use Rattle.std.specs.Prelude.{◌*◌, ◌≤◌}
use Rattle.parting.specs.Names.{ℕ, List, length}

-- both images have n words
abbrev pub HaveWords : List ℕ → List ℕ → ℕ → Type 0
HaveWords new signed n = (4 * n ≤ length new) × (4 * n ≤ length signed)

-- how many words are compared at a time
abbrev pub block : ℕ
block = 64
