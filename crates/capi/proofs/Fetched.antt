-- A fetched word and its place, in one number. Assumes nothing.
use Rattle.capi.specs.Names.{◌≡◌, ℕ, Lent, place_in, fetched_in, word_of, Place, cut_place}
use Rattle.capi.proofs.Names.{refl, sym, ap, ap₂, ◌∙◌, subst, Bool, true, false, place_number}
use Rattle.memory.specs.Memory.{lent_ok}
use Rattle.memory.proofs.Places.{place_refused, inside}
use Rattle.run.proofs.Offsets.{inside-whole}
use Rattle.capi.specs.Boundary.{fetch_of}

module _ (m : Lent) (a : ℕ) where
  place_whole : cut_place (place_in m a) ≡ place_in m a
  place_whole = by (lent_ok m) refl
    where
      by : (t : Bool) → lent_ok m ≡ t → cut_place (place_in m a) ≡ place_in m a
      by true e = inside-whole m a (place_in m a) e (inside m a)
      by false e = subst (λ (p : Place). cut_place p ≡ p) (sym (place_refused m a e)) refl

  pub fetched_number : (p : Place) (w r : ℕ) → r ≡ place_number (cut_place p) w → p ≡ place_in m a → w ≡ word_of (fetched_in m a) → r ≡ fetch_of m a
  unfolding fetch_of
  fetched_number p w r e f g =
      e ∙ ap₂ (λ (q : Place) (v : ℕ). place_number (cut_place q) v) f g ∙ ap (λ (q : Place). place_number q (word_of (fetched_in m a))) place_whole
