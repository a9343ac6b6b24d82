-- Refusal 4 and the places of four bytes. Assumes nothing.
use Rattle.memory.specs.Names.{◌≡◌, ℕ, ◌+◌, ◌-◌, ◌≤◌, length, Bool, Place, pick, ◌and◌, ◌or◌}
use Rattle.memory.proofs.Names.{refl, ap, ◌∙◌, true, false, arith, pick_yes, pick_no, and_left, and_right, and_yes, memory_ok, apart}
use Rattle.memory.proofs.Names.{memories_ok, lies_in, place_within, part_at, Inside}
use Rattle.page.proofs.Picks.{pick_by}
use Rattle.wire.proofs.Reading.{four_long}
pub use Rattle.memory.proofs.Apart.{ok_short, ok_ends}
use Rattle.memory.proofs.Apart.{held-from, held_to, apart-held_once}
use Rattle.std.proofs.Common.{Some, None}
use Rattle.memory.specs.Memory.{Lent, lent_ok, place_in, place_of, part_length}
use Rattle.memory.specs.Spans.{offset_in}

-- memories that are not refused are both good
pub on_ok : (m : Lent) → lent_ok m ≡ true → memory_ok m.onbase (length m.on) ≡ true
unfolding memories_ok
on_ok m h = and_left _ _ h

pub ext_ok : (m : Lent) → lent_ok m ≡ true → memory_ok m.extbase (length m.ext) ≡ true
unfolding memories_ok
ext_ok m h = and_left _ _ (and_right _ _ h)

-- of two good memories one at most holds an address
pub held_once : (m : Lent) (a : ℕ) → lent_ok m ≡ true → lies_in m.onbase (length m.on) a ≡ true → lies_in m.extbase (length m.ext) a ≡ false
unfolding memories_ok
held_once m a h =
    apart-held_once m.onbase (length m.on) m.extbase (length m.ext) a (and_right _ _ (and_right _ _ h))

module _ (m : Lent) (a : ℕ) where
  -- memories that are not refused lose nothing by being tried, refused ones hold nothing
  pub place_ok : lent_ok m ≡ true → place_in m a ≡ place_within m a
  unfolding place_in
  place_ok h = pick_yes _ _ _ h

  pub place_refused : lent_ok m ≡ false → place_in m a ≡ Place.Nowhere
  unfolding place_in
  place_refused h = pick_no _ _ _ h

  -- a place that was found lies inside its memory
  pub inside-within : Inside m a (place_within m a)
  unfolding place_within
  inside-within =
      pick_by (Inside m a) _ _ _ (held-inside m.onbase (length m.on))
      (λ _. pick_by (Inside m a) _ _ _ (held-inside m.extbase (length m.ext)) (λ _. tt))
    where
      held-inside : (b n : ℕ) → lies_in b n a ≡ true → (a - b + 4 ≤ n) × (b + (a - b) ≡ a)
      held-inside b n h = (omega (arith, held-from b n a h, held_to b n a h), omega (arith, held-from b n a h))

  pub inside : Inside m a (place_in m a)
  unfolding place_in
  inside = pick_by (Inside m a) _ _ _ (λ _. inside-within) (λ _. tt)

-- a part is four bytes, or none where there is no place
pub part_length_lem : (m : Lent) (a : ℕ) (p : Place) → Inside m a p → length (part_at m p) ≡ part_length p
part_length_lem m a (Place.OnChip k) h = four_long m.on k h.0
part_length_lem m a (Place.External k) h = four_long m.ext k h.0
part_length_lem m a Place.Nowhere h = refl

-- a part that starts where its memory does
pub at_start : (p : ℕ × ℕ) → ◌≡◌ {A = ℕ × ℕ} (p.0, 0 + p.1) p
at_start p = ap (λ (n : ℕ). (p.0, n)) (omega arith)

-- an empty memory may be lent beside any
none_ok : memory_ok 0 0 ≡ true
unfolding memory_ok ◌and◌
none_ok = refl

none_apart : (base n : ℕ) → apart 0 0 base n ≡ true
unfolding apart ◌or◌
none_apart base n = refl

pub none_beside : (base n : ℕ) → memory_ok base n ≡ true → memories_ok 0 0 base n ≡ true
unfolding memories_ok
none_beside base n h = and_yes _ _ none_ok ∙ and_yes _ _ h ∙ none_apart base n

-- the place by the offset that each memory gives
on_by : (t : Bool) (x k : ℕ) (p : Place) → pick t (Some x) None ≡ Some k → Place.OnChip k ≡ pick t (Place.OnChip x) p
unfolding pick
on_by true x k p h = cc
on_by false x k p h = cc

past_by : (t : Bool) (x : ℕ) (p q : Place) → pick t (Some x) None ≡ None → p ≡ pick t q p
unfolding pick
past_by true x p q h = cc
past_by false x p q h = refl

ext_by : (t : Bool) (x k : ℕ) (p : Place) → pick t (Some x) None ≡ Some k → Place.External k ≡ pick t (Place.External x) p
unfolding pick
ext_by true x k p h = cc
ext_by false x k p h = cc

module _ (b n c m a : ℕ) where
  pub on_place : (k : ℕ) → offset_in b n a ≡ Some k → Place.OnChip k ≡ place_of b n c m a
  on_place k h = on_by _ _ _ _ h

  pub ext_place : (k : ℕ) → offset_in b n a ≡ None → offset_in c m a ≡ Some k → Place.External k ≡ place_of b n c m a
  ext_place k g h = ext_by _ _ _ _ h ∙ past_by _ _ _ _ g

  pub no_place : offset_in b n a ≡ None → offset_in c m a ≡ None → Place.Nowhere ≡ place_of b n c m a
  no_place g h = past_by _ _ _ _ h ∙ past_by _ _ _ _ g

pub ruleset places = (on_place, ext_place, no_place)
