-- The laws of the comparison (02, P14). Assumes nothing.
use Rattle.parting.specs.Names.{◌≡◌, Bool, false, true, List, [], ℕ, ◌+◌, ◌*◌, ◌%◌, ◌<◌, ◌≤◌, eqb, length, ltb, take, drop, not, pick, ◌and◌, Bytes, bytes_of, word_at, Owner, Parting, Option, None}
use Rattle.parting.proofs.Names.{refl, sym, ap, subst, ◌∙◌, arith, eq-eqb, le-ltb, lt-ltb, pick_by, pick_yes, pick_no, and_left, and_right, and_yes}
use Rattle.parting.proofs.Names.{differing, first_differing, common, agreed, whole_words, owner_at, owner_number, owner_of, start_of, of_owner, part_bytes, parted}
use Rattle.parting.proofs.Names.{comparison_of, comparison_number, comparison_owner, comparison_start}
use mathlib.Core.Bool.{false≢true}
use mathlib.Core.Logic.{inl, inr}
use native.Mathlib.Decide.{dec_le}
use borrow.Author.Tests.{eqb-true, ltb-true}
use lib.ListN.{length-drop, drop_of_length-le}
use lib.Seq.{take_all}
use Rattle.wire.specs.Words.{word_of}
use Rattle.parting.specs.Statements.{SaysWhere, RefusedExactly, AgreesBefore, NewParts, SignedParts, NoneDiffer, ImagesPart, CasesWorked}
use Rattle.parting.proofs.Owners.{refused-is, owner_refused, start-refused, owner_good, start-good, in_new, in_signed, word_in}
use Rattle.parting.proofs.Agreement.{agree-before, differs_first, first-behind-all, none-agree, agree-none, same_front, front_agrees}

-- an owner at an offset of two lengths: the signed one's exactly where the new one ends there and is the shorter
owner_signed : (k n m : ℕ) → k ≡ n → n < m → owner_at k n m ≡ Owner.Signed
unfolding owner_at
owner_signed k n m e h = pick_yes _ _ _ (eq-eqb _ _ e) ∙ pick_yes _ _ _ (lt-ltb _ _ h)

signed_owner : (k n m : ℕ) → owner_number (owner_at k n m) ≡ 2 → (k ≡ n) × (n < m)
unfolding owner_at
signed_owner k n m =
    pick_by (λ (o : Owner). owner_number o ≡ 2 → (k ≡ n) × (n < m)) (eqb k n) _ _
    (λ e. pick_by (λ (o : Owner). owner_number o ≡ 2 → (k ≡ n) × (n < m)) (ltb n m) _ _ (λ f _. (eqb-true _ _ e, ltb-true _ _ f)) (λ _ z. absurd (omega (arith, z))))
    (λ _ z. absurd (omega (arith, z)))

owner_alike : (k n : ℕ) → owner_at k n n ≡ Owner.New
unfolding owner_at
owner_alike k n = pick_by (λ (o : Owner). o ≡ Owner.New) (eqb k n) _ _ (λ _. pick_no _ _ _ (le-ltb n n (omega arith))) (λ _. refl)

-- nothing remains of a list whose rest is empty
none_left : (k : ℕ) (l : List ℕ) → drop k l ≡ [] → length l ≤ k
none_left k l e = omega (arith, sym (length-drop k l) ∙ ap length e)

module _ (a b : List ℕ) where
  abbrev whole : Bool
  whole = whole_words (length a) (length b)

  by_whole : {P : Type 0} → (whole ≡ true → P) → (whole ≡ false → P) → P
  by_whole {P} f g = by whole refl
    where
      by : (t : Bool) → whole ≡ t → P
      by true h = f h
      by false h = g h

  multiples : whole ≡ true → (length a % 4 ≡ 0) × (length b % 4 ≡ 0)
  unfolding whole_words
  multiples h = (eqb-true _ _ (and_left _ _ h), eqb-true _ _ (and_right _ _ h))

  is_whole : (length a % 4 ≡ 0) × (length b % 4 ≡ 0) → whole ≡ true
  unfolding whole_words
  is_whole e = and_yes _ _ (eq-eqb _ _ e.0) ∙ eq-eqb _ _ e.1

  bad-whole : comparison_of a b ≡ None → whole ≡ false
  unfolding comparison_of
  bad-whole e =
      by_whole
      (λ h. absurd (omega (arith, ap comparison_number (sym (pick_yes whole (parted (owner_of a b) (start_of a b) _) None h) ∙ e))))
      (λ h. h)

  refused-exactly : RefusedExactly a b
  refused-exactly = (
    (λ e w. false≢true (sym (bad-whole e) ∙ is_whole w)),
    (λ h. by_whole (λ w. absurd (h (multiples w))) (λ w. sym (refused-is a b w))),
  )

  says_where : SaysWhere a b
  unfolding comparison_of
  says_where =
      by_whole
      (λ h. let e = pick_yes whole (parted (owner_of a b) (start_of a b) (differing a b (common a b))) None h in
      (ap comparison_owner e, ap (λ (c : Option Parting). comparison_start c (length a)) e))
      (λ h. let e = sym (refused-is a b h) in
      (ap comparison_owner e ∙ sym (owner_refused a b h), ap (λ (c : Option Parting). comparison_start c (length a)) e ∙ sym (start-refused a b h)))

  -- the start lies in both images where nothing is refused
  abbrev first : ℕ
  first = first_differing a b 0 (common a b)

  first_in_new : agreed a b ≤ length a
  first_in_new = in_new a b (common a b) first refl refl

  first_in_signed : agreed a b ≤ length b
  first_in_signed = in_signed a b (common a b) first refl refl

  pub signed_parts : SignedParts a b
  signed_parts e =
      by_whole
      (λ h. let z = signed_owner (agreed a b) (length a) (length b) (ap owner_number (sym (owner_good a b h) ∙ e)) in (start-good a b h ∙ z.0, z.1))
      (λ h. absurd (omega (arith, ap owner_number (sym (owner_refused a b h) ∙ e))))

  of_owner_lem : (o : Owner) → owner_of a b ≡ o → part_bytes a b ≡ drop (start_of a b) (of_owner o a b)
  of_owner_lem o e = ap (λ (x : Owner). drop (start_of a b) (of_owner x a b)) e

  refused-empty : whole ≡ false → part_bytes a b ≡ []
  refused-empty h = of_owner_lem Owner.New (owner_refused a b h) ∙ drop_of_length-le a {i = start_of a b} (omega (arith, start-refused a b h))

  new_parts : NewParts a b
  new_parts e l =
      by_whole
      (λ h.
      let s = start-good a b h in
      elim (dec_le (common a b) first) [
        | yes x ↦ inr (let w = multiples h in omega (arith, w.0, w.1, word_in a b (common a b) first refl refl))
        | no x ↦ inl (λ q.
            false≢true
            (sym (ap not (eq-eqb _ _ (subst (λ (k : ℕ). word_at a k ≡ word_at b k) s q))) ∙ differs_first a b 0 (common a b) (omega arith)))
      ])
      (λ h. absurd (omega (arith, start-refused a b h)))

  module _ (p : Bytes a) (q : Bytes b) where
    front : take (agreed a b) a ≡ take (agreed a b) b
    front = same_front a b p q first first_in_new first_in_signed (agree-before a b 0 (common a b))

    agrees_before : AgreesBefore a b
    agrees_before n =
        by_whole (λ h. subst (λ (k : ℕ). take k a ≡ take k b) (sym (start-good a b h)) front) (λ h. absurd (n (sym (refused-is a b h))))

    none_differ : NoneDiffer a b
    none_differ =
        let x : 4 * common a b ≤ length a = omega arith in
        let y : 4 * common a b ≤ length b = omega arith in (
          (λ e. same_front a b p q (common a b) x y (none-agree a b (common a b) e)),
          (λ e. agree-none a b (common a b) (front_agrees a b (common a b) x y e)),
        )

    -- an empty part of images that are not refused: they end together, and agree up to there
    empty-equal : whole ≡ true → part_bytes a b ≡ [] → a ≡ b
    empty-equal h e = by (owner_of a b) refl
      where
        by : (o : Owner) → owner_of a b ≡ o → a ≡ b
        by Owner.New g =
            let k = start-good a b h in
            let x = none_left (start_of a b) a (sym (of_owner_lem Owner.New g) ∙ e) in
            let ends : length b ≤ length a = elim (dec_le (length b) (length a)) [
              | yes z ↦ z
              | no z ↦ absurd (omega (arith, ap owner_number (sym (owner_signed (agreed a b) (length a) (length b) (omega (arith, first_in_new)) (omega arith)) ∙ sym (owner_good a b h) ∙ g)))
            ] in
            sym (take_all (agreed a b) a (omega arith)) ∙ front ∙ take_all (agreed a b) b (omega arith)
        by Owner.Signed g =
            let z = signed_parts g in
            absurd (omega (arith, z.0, z.1, none_left (start_of a b) b (sym (of_owner_lem Owner.Signed g) ∙ e)))

-- an image and itself
self_empty : (a : List ℕ) → part_bytes a a ≡ []
self_empty a =
    by_whole a a
    (λ h. of_owner_lem a a Owner.New (owner_good a a h ∙ owner_alike (agreed a a) (length a)) ∙ drop_of_length-le a {i = start_of a a} (omega (arith, start-good a a h, (multiples a a h).0, all)))
    (refused-empty a a)
  where
    all : first_differing a a 0 (common a a) ≡ 0 + common a a
    all = first-behind-all a a 0 (common a a) (λ j _ _. ap not (eq-eqb (word_at a (4 * j)) (word_at a (4 * j)) refl))

pub images_part : ImagesPart
images_part a b p q = record {
  where_it_is = says_where a b;
  refused = refused-exactly a b;
  empty = (
    (λ e. by_whole a b (λ h. inl (empty-equal a b p q h e)) (λ h. inr (sym (refused-is a b h)))),
    (λ s. elim s [ inl e ↦ subst (λ (l : List ℕ). part_bytes a l ≡ []) e (self_empty a) | inr e ↦ refused-empty a b (bad-whole a b e) ]),
  );
  before = agrees_before a b p q;
  of_new = new_parts a b;
  of_signed = signed_parts a b;
  none = none_differ a b p q;
}

pub cases_worked : CasesWorked
unfolding comparison_of owner_of start_of owner_at whole_words differing first_differing pick ◌and◌ bytes_of word_of
cases_worked = record { differ = (refl, refl); shorter = (refl, refl); longer = (refl, refl); equal = (refl, refl); uneven = (refl, refl) }
