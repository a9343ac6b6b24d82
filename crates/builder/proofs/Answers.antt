-- The builder's answer and what it leaves, case by case. Assumes nothing.
use Rattle.builder.specs.declared.BuildError.{BuildError}
use Rattle.std.proofs.Common.{Result, Ok, Err, Some, None}
use Rattle.std.specs.Option.{ok_or}
use Rattle.builder.specs.Image.{length_in}
use Rattle.records.specs.declared.BadList.{BadList}
use Rattle.builder.specs.Names.{◌≡◌, Bool, not, List, ◌++◌, drop, pick, Mapping, ℕ, ◌+◌, ◌%◌, ◌^◌, ◌≤◌, ltb, length, mappings, megabytes, checked, image_length}
use Rattle.builder.proofs.Names.{refl, sym, ap, ap₂, ◌∙◌, true, false, arith, not-false, pick_yes, pick_no, and_left}
use Rattle.builder.proofs.Names.{and_right, image, written, room_ok, outcome}
use Rattle.std.specs.Result.{IsErrAnd}
use borrow.Author.Tests.{ltb-false, eqb-true}
use Rattle.page.proofs.Picks.{pick_by}
use Rattle.memory.proofs.Places.{ok_ends}
use Rattle.builder.specs.Build.{refusal_of, after_check, length_or, answer_of, leaves, Outcome, build_of}

-- a room that is not refused: its base is a multiple of 4,096, and it ends at 2^32 at the latest
pub room_unit : (base room : ℕ) → room_ok base room ≡ true → base % 4096 ≡ 0
unfolding room_ok
room_unit base room h = eqb-true _ _ (and_left _ _ h)

pub room-memory : (base room : ℕ) → room_ok base room ≡ true → base + room ≤ 2 ^ 32
unfolding room_ok
room-memory base room h = ok_ends base room (and_right _ _ h)

-- what is an error, and that one
pub err_is : (r : Result ℕ BuildError) (e : BuildError) → IsErrAnd r (λ x. x ≡ e) → r ≡ Err e
err_is (Ok n) e h = absurd h
err_is (Err x) e h = ap Err h

module _ (rs : List ℕ) (base room : ℕ) where
  pub answer-memory : room_ok base room ≡ false → answer_of rs base room ≡ Err BuildError.BadMemory
  unfolding answer_of
  answer-memory h = pick_yes _ _ _ (ap not h)

  after : room_ok base room ≡ true → (r : Result Unit BadList) → checked megabytes rs ≡ r → (b : Result ℕ BuildError) → after_check r (length_or (mappings rs) room) ≡ b → answer_of rs base room ≡ b
  unfolding answer_of
  after h r c b e = pick_no _ _ _ (ap not h) ∙ ap (λ (x : Result Unit BadList). after_check x (length_or (mappings rs) room)) c ∙ e

  pub answer_refused : room_ok base room ≡ true → (b : BadList) → checked megabytes rs ≡ Err b → answer_of rs base room ≡ Err (refusal_of b)
  answer_refused h b c = after h (Err b) c (Err (refusal_of b)) refl

  -- a list that is not refused: 12 with the count, or the image's length
  pub answer-length : room_ok base room ≡ true → checked megabytes rs ≡ Ok tt → answer_of rs base room ≡ ok_or (length_in (mappings rs) room) (BuildError.TooLong (length (mappings rs)))
  unfolding pick
  answer-length h c = after h (Ok tt) c _ (sym (either _ _ (ltb room (image_length megabytes (mappings rs)))))
    where
      either : (n : ℕ) (e : BuildError) (b : Bool) → ok_or (pick b None (Some n)) e ≡ pick b (Err e) (Ok n)
      either n x true = refl
      either n x false = refl

-- what it leaves
pub left-written : (ms : List Mapping) (base : ℕ) (l : List ℕ) (e : ℕ)
    → written ms base l ≡ leaves (ok_or (length_in ms (length l)) (BuildError.TooLong e)) (image megabytes ms base) l
unfolding written pick
left-written ms base l e = either _ _ (ltb (length l) (image_length megabytes ms))
  where
    either : (n : ℕ) (img : List ℕ) (b : Bool) → pick b l (img ++ drop n l) ≡ leaves (ok_or (pick b None (Some n)) (BuildError.TooLong e)) img l
    either n x true = refl
    either n x false = refl

-- a refused list leaves the memory as it was
pub refused-leaves : (b : BadList) (img l : List ℕ) → l ≡ leaves (Err (refusal_of b)) img l
refused-leaves (BadList.BadRecord i) img l = refl
refused-leaves (BadList.Overlap i) img l = refl

-- what is left follows from the answer
pub outcome-is : (rs : List ℕ) (base : ℕ) (l o : List ℕ) (b : Result ℕ BuildError) → answer_of rs base (length l) ≡ b → o ≡ leaves b (image megabytes (mappings rs) base) l → outcome b o ≡ build_of rs base l
unfolding build_of
outcome-is rs base l o b e h =
    ap₂ outcome (sym e) (h ∙ ap (λ (x : Result ℕ BuildError). leaves x (image megabytes (mappings rs) base) l) (sym e))

-- what an accepted list is: no refusal's condition holds, and the answer is the image's length
pub record Accepted (rs : List ℕ) (base room len : ℕ) : Type 0 where
  pub memory : room_ok base room ≡ true
  pub records : checked megabytes rs ≡ Ok tt
  pub fits : image_length megabytes (mappings rs) ≤ room
  pub length-is : len ≡ image_length megabytes (mappings rs)

pub accepted : (rs : List ℕ) (base room len : ℕ) → answer_of rs base room ≡ Ok len → Accepted rs base room len
unfolding answer_of
accepted rs base room len =
    pick_by (λ (b : Result ℕ BuildError). b ≡ Ok len → Accepted rs base room len) (not (room_ok base room)) (Err BuildError.BadMemory) _
    (λ _ e. never e)
    (λ h. by_check (not-false _ h) (checked megabytes rs) refl)
  where
    never : {X : Type 0} → Err BuildError.BadMemory ≡ Ok len → X
    never e = let z : ◌≡◌ {A = ℕ} 0 1 = cc in absurd (omega arith)

    sized : room_ok base room ≡ true → checked megabytes rs ≡ Ok tt → length_or (mappings rs) room ≡ Ok len → Accepted rs base room len
    sized h c =
        pick_by (λ (b : Result ℕ BuildError). b ≡ Ok len → Accepted rs base room len) (ltb room (image_length megabytes (mappings rs))) _ _
        (λ _ e. let z : ◌≡◌ {A = ℕ} 0 1 = cc in absurd (omega arith))
        (λ f e. record { memory = h; records = c; fits = ltb-false _ _ f; length-is = (let z : len ≡ image_length megabytes (mappings rs) = cc in z) })

    by_check : room_ok base room ≡ true → (r : Result Unit BadList) → checked megabytes rs ≡ r → after_check r (length_or (mappings rs) room) ≡ Ok len → Accepted rs base room len
    by_check h (Ok tt) c e = sized h c e
    by_check h (Err b) c e = cc

-- what a build answers and leaves
pub build_answer : (rs : List ℕ) (base : ℕ) (l o : List ℕ) (b : Result ℕ BuildError) → outcome b o ≡ build_of rs base l → (b ≡ answer_of rs base (length l)) × (o ≡ leaves b (image megabytes (mappings rs) base) l)
unfolding build_of
build_answer rs base l o b e =
    let a : b ≡ answer_of rs base (length l) = ap (λ (x : Outcome). x.answer) e in
    (a, ap (λ (x : Outcome). x.memory) e ∙ ap (λ (x : Result ℕ BuildError). leaves x (image megabytes (mappings rs) base) l) (sym a))
