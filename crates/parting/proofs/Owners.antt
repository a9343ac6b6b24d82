-- Whose the part is, where it begins, and what the second call says. Assumes nothing.
use denote.Ref.{Bor}
use Rattle.parting.specs.Names.{◌≡◌, ◌<◌, ◌⊎◌, false, true, List, ℕ, ◌+◌, ◌*◌, ◌≤◌, drop, length, Bor, Owner, None}
use Rattle.parting.proofs.Names.{sym, ap, ap₂, ◌∙◌, arith, eq-eqb, ne_eqb, le-ltb, lt-ltb, pick_yes, pick_no, common, agreed, differing, first_differing, whole_words, owner_at, owner_of, start_of}
use Rattle.parting.proofs.Names.{of_owner, start_in, part_bytes, part_source, parted, comparison_of}
use mathlib.Core.Logic.{inl, inr}
use Rattle.parting.proofs.Counting.{count_none, first_to, none_before}

-- the owner by the three lengths
pub signed_at : (k n m : ℕ) → k ≡ n → n < m → Owner.Signed ≡ owner_at k n m
unfolding owner_at
signed_at k n m e h = sym (pick_yes _ _ _ (eq-eqb _ _ e) ∙ pick_yes _ _ _ (lt-ltb _ _ h))

pub new_past : (k n m : ℕ) → k ≡ n → m ≤ n → Owner.New ≡ owner_at k n m
unfolding owner_at
new_past k n m e h = sym (pick_yes _ _ _ (eq-eqb _ _ e) ∙ pick_no _ _ _ (le-ltb _ _ h))

pub new_before : (k n m : ℕ) → (k ≡ n → ⊥) → Owner.New ≡ owner_at k n m
unfolding owner_at
new_before k n m h = sym (pick_no _ _ _ (ne_eqb _ _ h))

pub new_at : (k n m : ℕ) → (k ≡ n) × (m ≤ n) ⊎ (k ≡ n → ⊥) → Owner.New ≡ owner_at k n m
new_at k n m (inl h) = new_past k n m h.0 h.1
new_at k n m (inr h) = new_before k n m h

pub ruleset owners = (arith, signed_at, new_past, new_before, new_at)

-- a part of its image, by its owner and its start
pub part_is : (new signed : Bor (List ℕ)) (o : Owner) (k : ℕ) → owner_of new.now signed.now ≡ o → start_of new.now signed.now ≡ k
    → (drop k (of_owner o new.now signed.now) ≡ part_bytes new.now signed.now) × (start_in k (of_owner o new signed) ≡ part_source new signed)
part_is new signed o k e f = (
  ap₂ (λ (p : Owner) (j : ℕ). drop j (of_owner p new.now signed.now)) (sym e) (sym f),
  ap₂ (λ (p : Owner) (j : ℕ). start_in j (of_owner p new signed)) (sym e) (sym f),
)

module _ (a b : List ℕ) where
  pub owner_refused : whole_words (length a) (length b) ≡ false → owner_of a b ≡ Owner.New
  unfolding owner_of
  owner_refused h = pick_no _ _ _ h

  pub start-refused : whole_words (length a) (length b) ≡ false → start_of a b ≡ length a
  unfolding start_of
  start-refused h = pick_no _ _ _ h

  pub refused-is : whole_words (length a) (length b) ≡ false → None ≡ comparison_of a b
  unfolding comparison_of
  refused-is h = sym (pick_no _ _ _ h)

  module _ (h : whole_words (length a) (length b) ≡ true) where
    pub owner_good : owner_of a b ≡ owner_at (agreed a b) (length a) (length b)
    unfolding owner_of
    owner_good = pick_yes _ _ _ h

    pub start-good : start_of a b ≡ agreed a b
    unfolding start_of
    start-good = pick_yes _ _ _ h

  -- of a number of words that is the common one, and the first of them that differs
  module _ (c w : ℕ) (e : c ≡ common a b) (f : w ≡ first_differing a b 0 c) where
    pub agreed-is : 4 * w ≡ agreed a b
    agreed-is = ap (λ (j : ℕ). 4 * j) (f ∙ ap (first_differing a b 0) e)

    pub word_in : w ≤ c
    word_in = omega (arith, f, first_to a b 0 c)

    pub in_new : 4 * w ≤ length a
    in_new = omega (arith, word_in, e)

    pub in_signed : 4 * w ≤ length b
    in_signed = omega (arith, word_in, e)

    count-is : (d : ℕ) → differing a b c ≡ differing a b w + d → d ≡ differing a b (common a b)
    count-is d g =
        let z : differing a b w ≡ 0 = ap (differing a b) f ∙ none_before a b 0 c ∙ count_none a b in
        let y : d ≡ differing a b c = omega arith in
        y ∙ ap (differing a b) e

    pub parted-is : (o : Owner) (d : ℕ) → whole_words (length a) (length b) ≡ true → o ≡ owner_at (4 * w) (length a) (length b)
        → differing a b c ≡ differing a b w + d → parted o (4 * w) d ≡ comparison_of a b
    unfolding comparison_of
    parted-is o d h g i =
        ap₂ (λ (p : Owner) (k : ℕ). parted p k d)
        (g ∙ ap (λ (k : ℕ). owner_at k (length a) (length b)) agreed-is ∙ sym (owner_good h))
        (agreed-is ∙ sym (start-good h))
        ∙ ap (parted (owner_of a b) (start_of a b)) (count-is d i)
        ∙ sym (pick_yes _ _ _ h)

-- the part of images of whole words, by its owner
pub part_good : (new signed : Bor (List ℕ)) (c w : ℕ) → c ≡ common new.now signed.now → w ≡ first_differing new.now signed.now 0 c
    → whole_words (length new.now) (length signed.now) ≡ true → (o : Owner) → o ≡ owner_at (4 * w) (length new.now) (length signed.now)
    → (drop (4 * w) (of_owner o new.now signed.now) ≡ part_bytes new.now signed.now) × (start_in (4 * w) (of_owner o new signed) ≡ part_source new signed)
part_good new signed c w e f h o g =
    let k = agreed-is new.now signed.now c w e f in
    part_is new signed o (4 * w)
    (owner_good new.now signed.now h ∙ ap (λ (j : ℕ). owner_at j (length new.now) (length signed.now)) (sym k) ∙ sym g)
    (start-good new.now signed.now h ∙ sym k)
