-- Lock base and victim as a word, by the two tests of what was handed in. Assumes nothing.
use Rattle.std.specs.Prelude.{◌≡◌, ℕ, ◌/◌, ◌%◌, ◌<◌, ◌≤◌}
use Rattle.state.specs.Names.{halves}
use Rattle.state.proofs.Names.{lock_word, sym, ◌∙◌, pick_yes, pick_no, and_yes, and_no, lt-ltb, le-ltb}

module _ (handed lock victim : ℕ) where
  pub base_handed : 256 ≤ handed % 65536 → handed ≡ lock_word handed lock victim
  unfolding lock_word
  base_handed h = sym (pick_no _ _ _ (and_no _ _ (le-ltb _ _ h)))

  pub victim_handed : handed % 65536 < 256 → 256 ≤ handed / 65536 → handed ≡ lock_word handed lock victim
  unfolding lock_word
  victim_handed l h = sym (pick_no _ _ _ (and_yes _ _ (lt-ltb _ _ l) ∙ le-ltb _ _ h))

  pub both_held : handed % 65536 < 256 → handed / 65536 < 256 → halves lock victim ≡ lock_word handed lock victim
  unfolding lock_word
  both_held l h = sym (pick_yes _ _ _ (and_yes _ _ (lt-ltb _ _ l) ∙ lt-ltb _ _ h))
