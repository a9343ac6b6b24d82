-- Words in range, and what keeps them there. Assumes nothing.
use Rattle.lanes.specs.Names.{◌≡◌, Bool, true, List, map, ℕ, zero, suc, ◌+◌, ◌%◌, ◌^◌, get_or}
use Rattle.lanes.proofs.Names.{refl, ◌∙◌, [], ◌∷◌, ◌<◌, ◌≤◌, ◌-◌, arith, set, lt-ltb, word_dropped, word_flushed, word_flushed_at}
use Rattle.lanes.proofs.Names.{VirtualAddress, pick_by, and_yes, slots, cam_ok, ram_ok}
use Prim.Native.Nat.{◌*◌, ◌/◌}
use borrow.Author.Tests.{ltb-true, eq-eqb}
use Rattle.page.specs.Low.{upper}
use Rattle.page.specs.Words.{low_bits, type_of, made_cam, made_ram}
use Rattle.page.specs.declared.Kind.{Kind}
use Rattle.page.proofs.Picks.{and_left, and_right}
use Rattle.page.proofs.Lower.{upper-le}
use Rattle.page.proofs.Slot.{start_1024, type_of-lt}
use Rattle.lanes.specs.Lanes.{cam_limit, all_from}
use Rattle.lanes.proofs.Searches.{from_next}

-- the test of every word says it of each
pub all_each : (p : ℕ → Bool) (n i : ℕ) (l : List ℕ) → all_from p n i l ≡ true → (j : ℕ) → i ≤ j → j < i + n → p (get_or l j 0) ≡ true
unfolding all_from
all_each p zero i l h j a b = absurd (omega arith)
all_each p (suc n) i l h j a b =
    from_next (λ (x : ℕ). p (get_or l x 0) ≡ true) n i j (and_left _ _ h)
    (all_each p n (i + 1) l (and_right (p (get_or l i 0)) _ h) j) a b

pub each_all : (p : ℕ → Bool) (n i : ℕ) (l : List ℕ) → ((j : ℕ) → i ≤ j → j < i + n → p (get_or l j 0) ≡ true) → all_from p n i l ≡ true
unfolding all_from
each_all p zero i l h = refl
each_all p (suc n) i l h = and_yes _ _ (h i (omega arith) (omega arith)) ∙ each_all p n (i + 1) l (λ j a b. h j (omega arith) (omega arith))

-- a store, or a change of every word, keeps a test that the new words pass
each_set : (p : ℕ → Bool) (l : List ℕ) (i x j : ℕ) → p x ≡ true → p (get_or l j 0) ≡ true → p (get_or (set l i x) j 0) ≡ true
each_set p [] i x j g h = h
each_set p (y ∷ l) zero x zero g h = g
each_set p (y ∷ l) zero x (suc j) g h = h
each_set p (y ∷ l) (suc i) x zero g h = h
each_set p (y ∷ l) (suc i) x (suc j) g h = each_set p l i x j g h

each_map : (p : ℕ → Bool) (f : ℕ → ℕ) (l : List ℕ) (j : ℕ) → ((w : ℕ) → p w ≡ true → p (f w) ≡ true) → p (get_or l j 0) ≡ true → p (get_or (map f l) j 0) ≡ true
each_map p f [] j g h = h
each_map p f (y ∷ l) zero g h = g y h
each_map p f (y ∷ l) (suc j) g h = each_map p f l j g h

module _ (p : ℕ → Bool) (l : List ℕ) (h : all_from p slots 0 l ≡ true) where
  pub all_set : (i x : ℕ) → p x ≡ true → all_from p slots 0 (set l i x) ≡ true
  all_set i x g = each_all p slots 0 (set l i x) (λ j a b. each_set p l i x j g (all_each p slots 0 l h j a b))

  pub all_map : (f : ℕ → ℕ) → ((w : ℕ) → p w ≡ true → p (f w) ≡ true) → all_from p slots 0 (map f l) ≡ true
  all_map f g = each_all p slots 0 (map f l) (λ j a b. each_map p f l j g (all_each p slots 0 l h j a b))

-- a dropped word is no larger
module _ (limit w : ℕ) (h : cam_ok limit w ≡ true) where
  dropped_ok : cam_ok limit (word_dropped w) ≡ true
  unfolding word_dropped
  dropped_ok = pick_by (λ (x : ℕ). cam_ok limit x ≡ true) _ _ _ (λ _. lt-ltb (w - 4) limit (omega (arith, ltb-true w limit h))) (λ _. h)

  pub flushed_ok : cam_ok limit (word_flushed w) ≡ true
  unfolding word_flushed
  flushed_ok = pick_by (λ (x : ℕ). cam_ok limit x ≡ true) _ _ _ (λ _. h) (λ _. dropped_ok)

  pub flushed_at_ok : (va : VirtualAddress) → cam_ok limit (word_flushed_at va w) ≡ true
  unfolding word_flushed_at
  flushed_at_ok va = pick_by (λ (x : ℕ). cam_ok limit x ≡ true) _ _ _ (λ _. dropped_ok) (λ _. h)

-- a walk's words are in range
pub made_cam_ok : (k : Kind) (va : ℕ) → va < 2 ^ 24 → cam_ok cam_limit (made_cam k va) ≡ true
unfolding made_cam
made_cam_ok k va h =
    lt-ltb (upper (low_bits k) va / 64 + 4 + type_of k) cam_limit (omega (arith, upper-le (low_bits k) va, start_1024 k va, type_of-lt k))

pub made_ram_ok : (k : Kind) (frame access : ℕ) → frame < 2 ^ 32 → ram_ok (made_ram k frame access) ≡ true
unfolding made_ram
made_ram_ok k frame access h =
    and_yes _ _ (lt-ltb (upper (low_bits k) frame + 256 * (access % 4)) (2 ^ 32) (omega (arith, upper-le (low_bits k) frame, start_1024 k frame)))
    ∙ eq-eqb ((upper (low_bits k) frame + 256 * (access % 4)) % 256) 0 (omega (arith, start_1024 k frame))
