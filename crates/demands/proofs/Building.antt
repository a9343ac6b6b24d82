-- The builder's answer is the first of its refusals, else the image's length, and then it leaves the image. Assumes nothing.
use Rattle.std.proofs.Common.{Ok}
use Rattle.builder.specs.declared.BuildError.{BuildError}
use Rattle.std.proofs.Common.{Result, Err}
use Rattle.records.specs.declared.BadList.{BadList}
use Rattle.demands.specs.Demands.Names.{◌≡◌, Bool, true, false, not, List, [], ◌∷◌, ℕ, zero, suc, eqb, ltb, length, megabytes, mappings, bad}
use Rattle.demands.specs.Demands.Names.{overlapping, begun, image_length, image, room_ok, answer_of, build_of, Refusing, First, Clear}
use Rattle.demands.proofs.Names.{refl, sym, ◌∙◌, ap, subst, false≢true, inl, inr, pick, image_length-is, accepted, leaves-image}
use Rattle.records.specs.Refusals.{checked_from, checked}
use Rattle.builder.specs.Build.{after_check, length_or, leaves}
use Rattle.unit.specs.Refusals.{refuses}
use Rattle.conduct.proofs.Firsts.{exactly-first, accepted_clear}
use Rattle.demands.specs.Building.{record_refusals, build_refusals, built_refused, built_said, BuildRefuses, BuildLeaves}

-- a refusal as the builder's answer, by its number
abbrev say : ℕ × ℕ → Result ℕ BuildError
say r = pick (eqb r.0 4) (Err BuildError.BadMemory) (pick (eqb r.0 10) (Err (BuildError.BadRecord r.1)) (pick (eqb r.0 11) (Err (BuildError.Overlap r.1)) (Err (BuildError.TooLong r.1))))

abbrev Told : ℕ × ℕ → Type 0
Told r = (built_refused (say r) ≡ true) × (built_said (say r) ≡ r)

-- every refusal of a list
abbrev pub Each : {K : Type 0} → (K → Type 0) → Refusing K → Type 0
Each P [] = Unit {0}
Each P (r ∷ rs) = P r.1 × Each P rs

pub first_each : {K : Type 0} (P : K → Type 0) (rs : Refusing K) (k : K) → Each P rs → First rs k → P k
first_each P [] k e x = elim x [ ]
first_each P (r ∷ rs) k e (inl f) = subst P f.1 e.0
first_each P (r ∷ rs) k e (inr f) = first_each P rs k e.1 f.1

-- one record: 10, else 11, else what follows
one_record : (s t : Bool) (i : ℕ) (x : Result Unit BadList) (b y : Result ℕ BuildError) → after_check x b ≡ y
    → after_check (pick s (Err (BadList.BadRecord i)) (pick t (Err (BadList.Overlap i)) x)) b ≡ pick s (Err (BuildError.BadRecord i)) (pick t (Err (BuildError.Overlap i)) y)
unfolding pick
one_record true t i x b y e = refl
one_record false true i x b y e = refl
one_record false false i x b y e = e

module _ (rs : List ℕ) (base room : ℕ) where
  abbrev else : Result ℕ BuildError
  else = Ok (image_length megabytes (mappings rs))

  abbrev last : Refusing (ℕ × ℕ)
  last = (ltb room (image_length megabytes (mappings rs)), (12, length (mappings rs))) ∷ []

  last_is : length_or (mappings rs) room ≡ refuses last say else
  unfolding refuses pick
  last_is = refl

  records_are : (i n : ℕ) → after_check (checked_from megabytes rs i n) (length_or (mappings rs) room) ≡ refuses (record_refusals rs i n last) say else
  unfolding checked_from refuses pick
  records_are i zero = last_is
  records_are i (suc n) = one_record (bad megabytes rs i) (overlapping rs i) i _ _ _ (records_are (suc i) n)

  answer-is : answer_of rs base room ≡ refuses (build_refusals rs base room) say else
  unfolding answer_of checked refuses pick
  answer-is = ap (λ (x : Result ℕ BuildError). pick (not (room_ok base room)) (Err BuildError.BadMemory) x) (records_are 0 (begun rs))

  records-told : (i n : ℕ) → Each Told (record_refusals rs i n last)
  unfolding pick
  records-told i zero = ((refl, refl), tt)
  records-told i (suc n) = ((refl, refl), ((refl, refl), records-told (suc i) n))

  told : Each Told (build_refusals rs base room)
  unfolding pick
  told = ((refl, refl), records-told 0 (begun rs))

  exactly :
      (k i : ℕ)
      → ((built_refused (answer_of rs base room) ≡ true) × (built_said (answer_of rs base room) ≡ (k, i)) → First (build_refusals rs base room) (k, i))
      × (First (build_refusals rs base room) (k, i) → (built_refused (answer_of rs base room) ≡ true) × (built_said (answer_of rs base room) ≡ (k, i)))
  exactly k i =
      subst
      (λ (x : Result ℕ BuildError).
      ((built_refused x ≡ true) × (built_said x ≡ (k, i)) → First (build_refusals rs base room) (k, i))
      × (First (build_refusals rs base room) (k, i) → (built_refused x ≡ true) × (built_said x ≡ (k, i))))
      (sym answer-is)
      (exactly-first say else (build_refusals rs base room) built_refused built_said (λ _. refl) (λ r f. first_each Told (build_refusals rs base room) r told f) (k, i))

  clear :
      (built_refused (answer_of rs base room) ≡ false → Clear (build_refusals rs base room))
      × (Clear (build_refusals rs base room) → built_refused (answer_of rs base room) ≡ false)
  clear =
      subst
      (λ (x : Result ℕ BuildError).
      (built_refused x ≡ false → Clear (build_refusals rs base room)) × (Clear (build_refusals rs base room) → built_refused x ≡ false))
      (sym answer-is)
      (accepted_clear say else (build_refusals rs base room) built_refused built_said (λ _. refl) (λ r f. first_each Told (build_refusals rs base room) r told f))

-- a refused build leaves the memory
left : (b : Result ℕ BuildError) (img before : List ℕ) → built_refused b ≡ true → leaves b img before ≡ before
left (Ok n) img before h = absurd (false≢true h)
left (Err BuildError.BadMemory) img before h = refl
left (Err (BuildError.BadRecord i)) img before h = refl
left (Err (BuildError.Overlap i)) img before h = refl
left (Err (BuildError.TooLong c)) img before h = refl

build_answers : (rs : List ℕ) (base : ℕ) (before : List ℕ) → (build_of rs base before).answer ≡ answer_of rs base (length before)
unfolding build_of
build_answers rs base before = refl

refused_left : (rs : List ℕ) (base : ℕ) (before : List ℕ) → built_refused (build_of rs base before).answer ≡ true → (build_of rs base before).memory ≡ before
unfolding build_of
refused_left rs base before h = left (answer_of rs base (length before)) (image megabytes (mappings rs) base) before h

pub build_refuses : BuildRefuses
build_refuses = record { when = exactly; otherwise = clear; answers = build_answers; unchanged = refused_left }

-- an accepted one answers and leaves the image
pub build_leaves : BuildLeaves
build_leaves rs base len before e =
    let h = sym (build_answers rs base before) ∙ e in
    record {
      length-is = (accepted rs base (length before) len h).length-is ∙ sym (image_length-is megabytes (mappings rs) base);
      memory = leaves-image rs base len before h;
    }
