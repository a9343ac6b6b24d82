-- Words given by a function of their number, as bytes and in a memory.
use Rattle.std.specs.Prelude.{◌+◌, ◌*◌, ◌++◌}
use Rattle.wire.specs.Names.{ℕ, zero, suc, List, [], leb, length, take, drop, pick}
use Rattle.wire.specs.Words.{word_bytes}

-- the bytes of the first k words of f
unfoldable pub bytes_by : (ℕ → ℕ) → ℕ → List ℕ
bytes_by f zero = []
bytes_by f (suc k) = bytes_by f k ++ word_bytes (f k)

-- the k words of f in a memory from offset at on, the other bytes as they were
unfoldable pub spliced : List ℕ → ℕ → (ℕ → ℕ) → ℕ → List ℕ
spliced l at f k = take at l ++ (bytes_by f k ++ drop (at + 4 * k) l)

-- a word n times over in a memory where there is room for it, nothing where there is not
unfoldable pub run_put : List ℕ → ℕ → ℕ → ℕ → List ℕ
run_put l at n w = pick (leb (at + 4 * n) (length l)) (spliced l at (λ (_ : ℕ). w) n) l
