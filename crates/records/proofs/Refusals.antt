-- The check of a list, record by record. Assumes nothing.
use Rattle.std.proofs.Common.{Ok, Err}
use Rattle.records.specs.declared.BadList.{BadList}
use Rattle.records.specs.Names.{◌≡◌, Bool, true, false, not, leb, List, ℕ, suc, ◌+◌, ◌*◌, ◌≤◌, ◌<◌, length, drop, pick, ◌or◌}
use Rattle.records.proofs.Names.{refl, sym, ap, ◌∙◌, true≢false, ◌-◌, arith, add-one, le-leb, lt-leb, not-false, length-take, length-drop}
use Rattle.records.proofs.Names.{pick_yes, pick_no, and_no, and_left, or_yes, or_no, record_at, well_formed, bad, overlapping, checked_from}
use Rattle.records.proofs.Names.{begun, checked}
use borrow.Author.Tests.{leb-true}
use Rattle.records.specs.Refusals.{most}

or-second : (a b : Bool) → (a or b) ≡ false → b ≡ false
or-second true b e = absurd (true≢false (sym (or_yes true b refl) ∙ e))
or-second false b e = sym (or_no false b refl) ∙ e

or-true : (a b : Bool) → b ≡ true → (a or b) ≡ true
or-true true b e = or_yes true b refl
or-true false b e = or_no false b refl ∙ e

module _ (n : ℕ) (rs : List ℕ) (i : ℕ) where
  pub bad_past : most ≤ i → bad n rs i ≡ true
  unfolding bad
  bad_past h = or_yes _ _ (le-leb most i h)

  -- within the limit, exactly what is not well-formed is bad
  pub bad-rest : (r : Bool) → i < most → r ≡ well_formed n (record_at rs i) → not r ≡ bad n rs i
  unfolding bad
  bad-rest r h e = ap not e ∙ sym (or_no _ _ (lt-leb most i h))

  pub good-rest : (r : Bool) → i < most → r ≡ well_formed n (record_at rs i) → r ≡ true → bad n rs i ≡ false
  good-rest r h e t = sym (bad-rest r h e) ∙ ap not t

  -- a short record is bad
  pub short_bad : length rs < 12 * i + 12 → bad n rs i ≡ true
  unfolding bad well_formed
  short_bad h =
      or-true (leb most i) _
      (ap not (and_no _ _ (lt-leb 12 (length (record_at rs i)) (omega (arith, length-take 12 (drop (12 * i) rs), length-drop (12 * i) rs)))))

  -- a record that is not bad is whole
  pub whole : bad n rs i ≡ false → 12 * i + 12 ≤ length rs
  unfolding bad well_formed
  whole e =
      let l = leb-true 12 (length (record_at rs i)) (and_left _ _ (not-false _ (or-second _ _ e))) in
      omega (arith, length-take 12 (drop (12 * i) rs), length-drop (12 * i) rs)

-- with i records passed, the check of the rest is the answer
abbrev pub Left : ℕ → List ℕ → ℕ → Type 0
Left n rs i = checked n rs ≡ checked_from n rs i (begun rs - i)

pub left_none : (n : ℕ) (rs : List ℕ) → Left n rs 0
unfolding checked
left_none n rs = ap (checked_from n rs 0) (let e : begun rs ≡ begun rs - 0 = omega arith in e)

module _ (n : ℕ) (rs : List ℕ) (i : ℕ) (h : 12 * i < length rs) (l : Left n rs i) where
  left_at : checked n rs ≡ pick (bad n rs i) (Err (BadList.BadRecord i)) (pick (overlapping rs i) (Err (BadList.Overlap i)) (checked_from n rs (i + 1) (begun rs - (i + 1))))
  unfolding checked_from
  left_at =
      l
      ∙ ap (checked_from n rs i) (let e : begun rs - i ≡ suc (begun rs - (i + 1)) = omega arith in e)
      ∙ ap (λ (k : ℕ). pick (bad n rs i) (Err (BadList.BadRecord i)) (pick (overlapping rs i) (Err (BadList.Overlap i)) (checked_from n rs k (begun rs - (i + 1))))) (sym (add-one i))

  pub left_bad : bad n rs i ≡ true → Err (BadList.BadRecord i) ≡ checked n rs
  left_bad b = sym (left_at ∙ pick_yes _ _ _ b)

  pub left_clash : bad n rs i ≡ false → overlapping rs i ≡ true → Err (BadList.Overlap i) ≡ checked n rs
  left_clash b k = sym (left_at ∙ pick_no _ _ _ b ∙ pick_yes _ _ _ k)

  pub left_more : bad n rs i ≡ false → overlapping rs i ≡ false → Left n rs (i + 1)
  left_more b k = left_at ∙ pick_no _ _ _ b ∙ pick_no _ _ _ k

pub left_end : (n : ℕ) (rs : List ℕ) (i : ℕ) → length rs ≤ 12 * i → Left n rs i → Ok tt ≡ checked n rs
unfolding checked_from
left_end n rs i h l = sym (l ∙ ap (checked_from n rs i) (let e : begun rs - i ≡ 0 = omega arith in e))
