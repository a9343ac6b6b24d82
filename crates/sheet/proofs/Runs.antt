-- The bytes of words from the first one on, which compute in as many steps as there are words. Assumes nothing.
use Rattle.sheet.specs.Names.{◌≡◌, List, [], ◌++◌, ℕ, zero, suc, ◌+◌}
use Rattle.sheet.proofs.Names.{ap, ◌∙◌}
use mathlib.Core.Path.{sym}
use mathlib.Core.List.{append_assoc, append-nil}
use native.Mathlib.Omega.{arith}
use Rattle.wire.specs.Spliced.{bytes_by}
use Rattle.wire.specs.Words.{word_bytes}

-- k words of f from word i on
unfoldable pub run_of : (ℕ → ℕ) → ℕ → ℕ → List ℕ
run_of f i zero = []
run_of f i (suc k) = word_bytes (f i) ++ run_of f (suc i) k

-- all n words are the first i and the k that follow
run_on : (f : ℕ → ℕ) (k i n : ℕ) → n ≡ k + i → bytes_by f n ≡ bytes_by f i ++ run_of f i k
unfolding bytes_by run_of
run_on f zero i n e = ap (bytes_by f) (let z : n ≡ i = omega arith in z) ∙ sym (append-nil (bytes_by f i))
run_on f (suc k) i n e = run_on f k (suc i) n (omega arith) ∙ append_assoc (bytes_by f i) (word_bytes (f i)) (run_of f (suc i) k)

pub run_is : (f : ℕ → ℕ) (k : ℕ) → bytes_by f k ≡ run_of f 0 k
unfolding bytes_by
run_is f k = run_on f k 0 k (omega arith)
