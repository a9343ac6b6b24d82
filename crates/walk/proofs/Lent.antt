-- What one of two lent memories holds is what is read. Assumes nothing.
use Rattle.std.proofs.Common.{Some}
use Rattle.walk.specs.Names.{◌≡◌, Bool, true, false, ℕ, ◌-◌, Lent, place_in, word_of, Place}
use Rattle.walk.proofs.Names.{refl, sym, ◌∙◌, ap, pick_yes, pick_no, read_at, read_in}
use mathlib.Core.Bool.{true≢false}
use lib.ListN.{length}
use Rattle.memory.specs.Memory.{lent_ok, lies_in, place_within, part_at}
use Rattle.memory.proofs.Places.{place_ok, held_once}
use Rattle.wire.specs.Words.{word_at}

module _ (m : Lent) (ok : lent_ok m ≡ true) (a : ℕ) where
  read_at_lem : (p : Place) → place_in m a ≡ p → read_in m a ≡ read_at (word_of (part_at m p)) p
  unfolding read_in
  read_at_lem p e = ap (λ (x : Place). read_at (word_of (part_at m x)) x) e

  pub on_read : lies_in m.onbase (length m.on) a ≡ true → read_in m a ≡ Some (word_at m.on (a - m.onbase), place_in m a)
  unfolding place_within
  on_read h =
      let e : place_in m a ≡ Place.OnChip (a - m.onbase) = place_ok m a ok ∙ pick_yes _ _ _ h in
      read_at_lem _ e ∙ ap (λ (p : Place). Some (word_at m.on (a - m.onbase), p)) (sym e)

  pub ext-read : lies_in m.extbase (length m.ext) a ≡ true → read_in m a ≡ Some (word_at m.ext (a - m.extbase), place_in m a)
  unfolding place_within
  ext-read h =
      let e : place_in m a ≡ Place.External (a - m.extbase) = place_ok m a ok ∙ pick_no _ _ _ (other (lies_in m.onbase (length m.on) a) refl) ∙ pick_yes _ _ _ h in
      read_at_lem _ e ∙ ap (λ (p : Place). Some (word_at m.ext (a - m.extbase), p)) (sym e)
    where
      other : (b : Bool) → lies_in m.onbase (length m.on) a ≡ b → b ≡ false
      other false e = refl
      other true e = absurd (true≢false (sym h ∙ held_once m a ok e))
