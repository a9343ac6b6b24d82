-- A global flush keeps V exactly where P is set, an entry flush clears V of exactly the matches; nothing else changes.
-- Assumes nothing.
use Rattle.lanes.specs.Names.{◌≡◌, true, List, map, ℕ, zero, suc, get_or, pick, ◌and◌}
use Rattle.lanes.proofs.Names.{refl, sym, ap, ◌∙◌, false, [], ◌∷◌, word_matches, word_dropped, word_flushed, word_flushed_at, VirtualAddress}
use Rattle.lanes.proofs.Names.{pick_yes, pick_no, flushed_all, flushed_entry}
use Rattle.page.specs.Words.{word_valid, word_preserved}
use Rattle.page.proofs.Slot.{dropped-off, flushed-valid}

-- a slot past the end is empty, and a change that keeps the empty word changes each slot by itself
pub get_d_map : (f : ℕ → ℕ) → f 0 ≡ 0 → (l : List ℕ) (j : ℕ) → get_or (map f l) j 0 ≡ f (get_or l j 0)
get_d_map f z [] j = sym z
get_d_map f z (x ∷ l) zero = refl
get_d_map f z (x ∷ l) (suc j) = get_d_map f z l j

module _ (cam : List ℕ) (j : ℕ) where
  pub flush_word : get_or (flushed_all cam) j 0 ≡ word_flushed (get_or cam j 0)
  unfolding flushed_all word_flushed word_dropped pick
  flush_word = get_d_map word_flushed refl cam j

  pub flush_exact : word_valid (get_or (flushed_all cam) j 0) ≡ (word_preserved (get_or cam j 0) and word_valid (get_or cam j 0))
  flush_exact = ap word_valid flush_word ∙ flushed-valid (get_or cam j 0)

  pub flush_keeps_lem : word_preserved (get_or cam j 0) ≡ true → get_or (flushed_all cam) j 0 ≡ get_or cam j 0
  unfolding word_flushed
  flush_keeps_lem p = flush_word ∙ pick_yes _ _ _ p

  pub flush_drops : word_preserved (get_or cam j 0) ≡ false → get_or (flushed_all cam) j 0 ≡ word_dropped (get_or cam j 0)
  unfolding word_flushed
  flush_drops p = flush_word ∙ pick_no _ _ _ p

module _ (va : VirtualAddress) (cam : List ℕ) (j : ℕ) where
  pub entry-word : get_or (flushed_entry va cam) j 0 ≡ word_flushed_at va (get_or cam j 0)
  unfolding flushed_entry
  entry-word = get_d_map (word_flushed_at va) (empty_stays va) cam j
    where
      empty_stays : (va : VirtualAddress) → word_flushed_at va 0 ≡ 0
      empty_stays va = unfold word_flushed_at in unfold word_matches in unfold ◌and◌ in unfold pick in refl

  pub entry_drops : word_matches (get_or cam j 0) va ≡ true → get_or (flushed_entry va cam) j 0 ≡ word_dropped (get_or cam j 0)
  unfolding word_flushed_at
  entry_drops h = entry-word ∙ pick_yes _ _ _ h

  pub entry_keeps : word_matches (get_or cam j 0) va ≡ false → get_or (flushed_entry va cam) j 0 ≡ get_or cam j 0
  unfolding word_flushed_at
  entry_keeps h = entry-word ∙ pick_no _ _ _ h

  pub entry_clears : word_matches (get_or cam j 0) va ≡ true → word_valid (get_or (flushed_entry va cam) j 0) ≡ false
  entry_clears h = ap word_valid (entry_drops h) ∙ dropped-off (get_or cam j 0)
