-- One turn of the run: what is left to write. Assumes nothing.
use Rattle.std.proofs.Common.{Option}
use Rattle.run.specs.Names.{◌≡◌, List, ◌++◌, ℕ, ◌+◌, ◌*◌, ◌≤◌, length, Lent, Prices, Call, stepped, Bench, Stepped, placed, words_put, state_words}
use Rattle.run.proofs.Names.{refl, sym, ◌∙◌, ap, ap₂, ◌-◌, ◌<◌, arith, call_at, said_words, session_words}
use Prim.Native.Nat.{zero, suc}
use Rattle.calls.specs.Records.{call_size, calls_from}
use Rattle.calls.proofs.Rest.{calls_next, calls-none}
use Rattle.wire.proofs.Placing.{placed_then, written_fits}
use Rattle.run.proofs.Sizes.{said-length}
use Rattle.state.proofs.Parts.{state_fits}
use Rattle.run.proofs.Lengths.{session-length}

-- the session from call i of n on
module _ (m : Lent) (p : Prices) (handed : ℕ) (l : List ℕ) (n : ℕ) where
  abbrev pub left : Bench → ℕ → List ℕ
  left b i = session_words m p handed b (calls_from l i (n - i))

  calls-length : (i k : ℕ) → length (calls_from l i k) ≡ k
  unfolding calls_from
  calls-length i zero = refl
  calls-length i (suc k) = ap suc (calls-length (i + 1) k)

  pub run_turn : (out o : List ℕ) (b : Bench) (i : ℕ) (s : Stepped) → i < n → 16 * n + 328 ≤ length out
      → s ≡ stepped m p b (call_at l (call_size * i)) → o ≡ words_put out (16 * i) (said_words s.said s.from)
      → placed out (16 * i) (left b i) ≡ placed o (16 * (i + 1)) (left s.bench (i + 1))
  unfolding session_words
  run_turn out o b i s h fits e q =
      let rest = left s.bench (i + 1) in
      let u = said-length s.said s.from in
      let v = session-length m p handed s.bench (calls_from l (i + 1) (n - (i + 1))) in
      let w = calls-length (i + 1) (n - (i + 1)) in
      ap (λ (cs : List (Option Call)). placed out (16 * i) (session_words m p handed b cs)) (calls_next l n i h)
      ∙ ap (λ (x : Stepped). placed out (16 * i) (said_words x.said x.from ++ session_words m p handed x.bench (calls_from l (i + 1) (n - (i + 1))))) (sym e)
      ∙ sym (placed_then out (16 * i) (said_words s.said s.from) (omega arith) rest (omega arith))
      ∙ ap₂ (λ (x : List ℕ) (j : ℕ). placed x j rest) (sym (q ∙ written_fits out (16 * i) (said_words s.said s.from) (omega arith)))
      (let d : 16 * i + 4 * length (said_words s.said s.from) ≡ 16 * (i + 1) = omega arith in d)

  pub run_end : (out : List ℕ) (b : Bench) (i : ℕ) → n ≤ i → i ≤ n → 16 * n + 328 ≤ length out
      → placed out (16 * i) (left b i) ≡ words_put out (16 * n) (state_words handed b)
  unfolding session_words
  run_end out b i h g fits =
      ap₂ (λ (j : ℕ) (cs : List (Option Call)). placed out (16 * j) (session_words m p handed b cs)) (let e : i ≡ n = omega arith in e) (calls-none l n i h)
      ∙ sym (state_fits out (16 * n) handed b fits)
