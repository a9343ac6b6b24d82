-- A refused record's index, and the count of a list that is tried, have 32 bits. Assumes nothing.
use Rattle.builder.specs.declared.BuildError.{BuildError}
use Rattle.std.proofs.Common.{Result, Ok, Err}
use Rattle.records.specs.declared.BadList.{BadList}
use Rattle.capi.specs.Names.{◌≡◌, List, ℕ, ◌%◌, ◌^◌, ◌≤◌, length, build_of, ran}
use Rattle.capi.proofs.Names.{refl, sym, ◌∙◌, ap, ap₂, subst, false, arith, built_word, cut_built}
use mathlib.Core.Bool.{not, true≢false}
use Prim.Native.Nat.{zero, suc, ◌<◌}
use native.Mathlib.Decide.{dec_le}
use lib.Dec.{ltb}
use Rattle.page.specs.Words.{megabytes}
use Rattle.page.proofs.Picks.{pick_by}
use Rattle.records.specs.Mappings.{mappings}
use Rattle.records.proofs.Listed.{mappings-length}
use Rattle.records.specs.Refusals.{most, bad, overlapping, checked_from, begun, checked, checked_index}
use Rattle.records.proofs.Refusals.{bad_past}
use Rattle.records.proofs.Accepted.{fine_clean}
use Rattle.tables.specs.Tables.{image_length}
use Rattle.builder.specs.Build.{room_ok, after_check, length_or, answer_of, Outcome, outcome}
use Rattle.capi.specs.Boundary.{build_ran}

-- a record that is not bad is not past the limit
not_past : (n : ℕ) (rs : List ℕ) (i : ℕ) → bad n rs i ≡ false → i < most
not_past n rs i e = elim (dec_le most i) [
  | yes g ↦ absurd (true≢false (sym (bad_past n rs i g) ∙ e))
  | no g ↦ omega arith
]

index-from : (n : ℕ) (rs : List ℕ) (k i : ℕ) → i ≤ most → checked_index (checked_from n rs i k) ≤ most
unfolding checked_from
index-from n rs zero i h = omega arith
index-from n rs (suc k) i h =
    pick_by (λ (c : Result Unit BadList). checked_index c ≤ most) (bad n rs i) _ _
    (λ _. h)
    (λ e. pick_by (λ (c : Result Unit BadList). checked_index c ≤ most) (overlapping rs i) _ _ (λ _. h) (λ _. index-from n rs k (suc i) (let l = not_past n rs i e in omega arith)))

index-most : (n : ℕ) (rs : List ℕ) → checked_index (checked n rs) ≤ most
unfolding checked
index-most n rs = index-from n rs (begun rs) 0 (omega arith)

count_most : (n : ℕ) (rs : List ℕ) → checked n rs ≡ Ok tt → length (mappings rs) ≤ most
count_most n rs e =
    let l = mappings-length rs in
    elim (dec_le (begun rs) most) [
      | yes g ↦ omega arith
      | no g ↦ absurd (let z = not_past n rs most (fine_clean n rs e most (omega arith)).0 in omega arith)
    ]

short : (i : ℕ) → i ≤ most → i % 2 ^ 32 ≡ i
short i h = omega arith

module _ (rs : List ℕ) (room : ℕ) where
  after : (c : Result Unit BadList) → checked megabytes rs ≡ c → cut_built (after_check c (length_or (mappings rs) room)) ≡ after_check c (length_or (mappings rs) room)
  after (Ok u) e = pick_by (λ (b : Result ℕ BuildError). cut_built b ≡ b) (ltb room (image_length megabytes (mappings rs))) _ _ (λ _. ap (λ (x : ℕ). Err (BuildError.TooLong x)) (short _ (count_most megabytes rs e))) (λ _. refl)
  after (Err (BadList.BadRecord i)) e = ap (λ (x : ℕ). Err (BuildError.BadRecord x)) (short i (subst (λ (c : Result Unit BadList). checked_index c ≤ most) e (index-most megabytes rs)))
  after (Err (BadList.Overlap i)) e = ap (λ (x : ℕ). Err (BuildError.Overlap x)) (short i (subst (λ (c : Result Unit BadList). checked_index c ≤ most) e (index-most megabytes rs)))

built-whole : (rs : List ℕ) (base : ℕ) (l : List ℕ) → cut_built (build_of rs base l).answer ≡ (build_of rs base l).answer
unfolding build_of answer_of
built-whole rs base l =
    pick_by (λ (b : Result ℕ BuildError). cut_built b ≡ b) (not (room_ok base (length l))) (Err BuildError.BadMemory) _ (λ _. refl) (λ _. after rs (length l) (checked megabytes rs) refl)

pub built-ran : (rs : List ℕ) (base : ℕ) (l o : List ℕ) (b : Result ℕ BuildError) (r : ℕ) → r ≡ built_word (cut_built b) → outcome b o ≡ build_of rs base l → ran r o ≡ build_ran rs base l
unfolding build_ran
built-ran rs base l o b r e f =
    ap₂ ran (e ∙ ap (λ (x : Outcome). built_word (cut_built x.answer)) f ∙ ap built_word (built-whole rs base l)) (ap (λ (x : Outcome). x.memory) f)
