-- The word at an offset among the tables. Assumes nothing.
use Rattle.tables.specs.Names.{◌≡◌, List, ℕ, zero, suc, ◌-◌, ◌/◌, Mapping}
use Rattle.tables.proofs.Names.{◌∙◌, subst, ◌≤◌, ◌<◌, arith, dec_le, pick_yes, pick_no, and_yes, table_of, table_end, table_start, second_word}
use borrow.Author.Tests.{lt-ltb, le-leb, lt-leb}
use Rattle.page.proofs.Picks.{and_no}
use Rattle.tables.proofs.Places.{end-start, end-le}
use Rattle.tables.specs.Words.{in_tables}

module _ (n : ℕ) (ms : List Mapping) where
  -- the word at an offset inside megabyte i's table is that table's
  abbrev At : ℕ → ℕ → ℕ → Type 0
  At k i o = in_tables n ms k o ≡ second_word ms (table_of ms i) i ((o - table_start n ms i) / 4)

  pub in_table : (k i o : ℕ) → i < k → table_start n ms i ≤ o → o < table_end n ms (suc i) → At k i o
  unfolding in_tables
  in_table zero i o h lo hi = absurd (omega arith)
  in_table (suc k) i o h lo hi = elim (dec_le k i) [
    | yes g ↦
        subst (λ (j : ℕ). At (suc j) i o) (let e : i ≡ k = omega arith in e)
        (pick_yes _ _ _ (and_yes _ _ (le-leb _ _ lo) ∙ lt-ltb _ _ hi))
    | no g ↦
        pick_no _ _ _ (and_no _ _ (lt-leb (table_start n ms k) o (omega (arith, end-le n ms (suc i) k (omega arith), end-start n ms k))))
        ∙ in_table k i o (omega arith) lo hi
  ]
