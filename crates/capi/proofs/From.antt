-- What a run from a handed-in state answers, by whether the bytes are a state. Assumes nothing.
use Rattle.std.specs.Prelude.{◌≡◌}
use Rattle.capi.specs.Names.{Float, Lent, List, Prices, bench_in, is_state, lock_in, ran, run_with, ℕ}
use Rattle.capi.proofs.Names.{false, from_of, sym, true}
use Rattle.page.proofs.Picks.{pick_no, pick_yes}

module _ (m : Lent) (p : Prices) (onkind extkind : ℕ) (state : List ℕ) (total misses : Float) (calls out : List ℕ) where
  pub from_refused : is_state state ≡ false → ran 0 out ≡ from_of m p onkind extkind state total misses calls out
  unfolding from_of
  from_refused h = sym (pick_no _ _ _ h)

  pub from_run : is_state state ≡ true
      → run_with m p onkind extkind (lock_in state) (bench_in state total misses) calls out ≡ from_of m p onkind extkind state total misses calls out
  unfolding from_of
  from_run h = sym (pick_yes _ _ _ h)
