-- The check and the list of an image are refused by the first of their refusals, and at no other time. Assumes nothing.
use Rattle.audit.specs.declared.ListError.{ListError}
use Rattle.std.proofs.Common.{Result, Ok, Err}
use Rattle.audit.specs.declared.ImageError.{ImageError}
use Rattle.demands.specs.Demands.Names.{◌≡◌, Bool, true, false, not, List, [], ◌∷◌, ℕ, zero, suc, ◌+◌, ◌-◌, ◌*◌, ltb, eqb, length, megabytes, Refusing}
use Rattle.demands.specs.Demands.Names.{check_of, list_of, pages_in, record_size, physical, Entry, Table, index_limit, first_of, word_at, broken, image_ok, table_in}
use Rattle.demands.proofs.Names.{refl, sym, subst, false≢true, pick}
use Rattle.unit.specs.Refusals.{refuses}
use Rattle.conduct.proofs.Firsts.{exactly-first, accepted_clear}
use Rattle.audit.specs.Check.{words_checked, table_checked, first_checked, level_checked}
use Rattle.audit.specs.List.{inventory_of, inventory_left}
use Rattle.demands.specs.Auditing.{word_refusals, table_refusals, entry_refusals, level_refusals, image_refusals, list_refusals, verdict_refused, verdict_said}
use Rattle.demands.specs.Auditing.{inventory_refused, inventory_said, RefusesBy, AuditRefuses}
use Rattle.demands.proofs.Building.{Each, first_each}

-- one law for the check and the list: f is what a verdict comes to, and each refusal is said as the list of refusals says it
module _ {A : Type 0} (f : Result ℕ ImageError → A) (say : ℕ × ℕ → A) (else : A) (memory : f (Err ImageError.BadMemory) ≡ say (4, 0))
    (outside : (a : ℕ) → f (Err (ImageError.Outside (physical a))) ≡ say (17, a)) (unequal : (a : ℕ) → f (Err (ImageError.Unequal (physical a))) ≡ say (18, a)) where
  chosen : (b : Bool) (v u : Result ℕ ImageError) (k : ℕ × ℕ) (rs : Refusing (ℕ × ℕ)) → f v ≡ say k → f u ≡ refuses rs say else → f (pick b v u) ≡ refuses ((b, k) ∷ rs) say else
  unfolding refuses pick
  chosen true v u k rs e g = e
  chosen false v u k rs e g = g

  module _ (l : List ℕ) (base : ℕ) where
    words_are : (t : Table) (at n j : ℕ) (v : Result ℕ ImageError) (rs : Refusing (ℕ × ℕ)) → f v ≡ refuses rs say else
        → f (words_checked t l base at j n v) ≡ refuses (word_refusals t l base at j n rs) say else
    unfolding words_checked
    words_are t at zero j v rs e = e
    words_are t at (suc n) j v rs e =
        chosen (broken t l (at - base) j) _ _ (18, at + 4 * j) (word_refusals t l base at (suc j) n rs) (unequal (at + 4 * j)) (words_are t at n (suc j) v rs e)

    table_is : (t : Table) (i at : ℕ) (v : Result ℕ ImageError) (rs : Refusing (ℕ × ℕ)) → f v ≡ refuses rs say else
        → f (table_checked t l base i at v) ≡ refuses (table_refusals t l base i at rs) say else
    unfolding table_checked
    table_is t i at v rs e =
        chosen (not (table_in base (length l) t at)) _ _ (17, base + 4 * i) (word_refusals t l base at 0 (index_limit t) rs) (outside (base + 4 * i)) (words_are t at (index_limit t) 0 v rs e)

    entry-is : (i : ℕ) (d : Entry) (v : Result ℕ ImageError) (rs : Refusing (ℕ × ℕ)) → f v ≡ refuses rs say else
        → f (first_checked l base i d v) ≡ refuses (entry_refusals l base i d rs) say else
    entry-is i Entry.Fault v rs e = e
    entry-is i (Entry.Whole p) v rs e = e
    entry-is i (Entry.Coarse at) v rs e = table_is Table.Coarse i at.0 v rs e
    entry-is i (Entry.Fine at) v rs e = table_is Table.Fine i at.0 v rs e

    level-is : (n i : ℕ) (v : Result ℕ ImageError) (rs : Refusing (ℕ × ℕ)) → f v ≡ refuses rs say else → f (level_checked l base i n v) ≡ refuses (level_refusals l base i n rs) say else
    unfolding level_checked
    level-is zero i v rs e = e
    level-is (suc n) i v rs e = entry-is i (first_of (word_at l (4 * i))) _ _ (level-is n (suc i) v rs e)

    image-is : (rs : Refusing (ℕ × ℕ)) → f (Ok (length (pages_in megabytes l base))) ≡ refuses rs say else
        → f (check_of megabytes l base) ≡ refuses (image_refusals l base rs) say else
    unfolding check_of
    image-is rs e =
        chosen (not (image_ok base (length l))) _ _ (4, 0) _ memory
        (chosen (ltb (length l) (4 * megabytes)) _ _ (17, base) _ (outside base) (level-is megabytes 0 _ rs e))

-- what holds of every refusal of a list holds of an image's
module _ (P : ℕ × ℕ → Type 0) (memory : P (4, 0)) (outside : (a : ℕ) → P (17, a)) (unequal : (a : ℕ) → P (18, a)) (l : List ℕ) (base : ℕ) where
  words_each : (t : Table) (at n j : ℕ) (rs : Refusing (ℕ × ℕ)) → Each P rs → Each P (word_refusals t l base at j n rs)
  words_each t at zero j rs e = e
  words_each t at (suc n) j rs e = (unequal (at + 4 * j), words_each t at n (suc j) rs e)

  entry_each : (i : ℕ) (d : Entry) (rs : Refusing (ℕ × ℕ)) → Each P rs → Each P (entry_refusals l base i d rs)
  entry_each i Entry.Fault rs e = e
  entry_each i (Entry.Whole p) rs e = e
  entry_each i (Entry.Coarse at) rs e = (outside (base + 4 * i), words_each Table.Coarse at.0 (index_limit Table.Coarse) 0 rs e)
  entry_each i (Entry.Fine at) rs e = (outside (base + 4 * i), words_each Table.Fine at.0 (index_limit Table.Fine) 0 rs e)

  level_each : (n i : ℕ) (rs : Refusing (ℕ × ℕ)) → Each P rs → Each P (level_refusals l base i n rs)
  level_each zero i rs e = e
  level_each (suc n) i rs e = entry_each i (first_of (word_at l (4 * i))) (level_refusals l base (suc i) n rs) (level_each n (suc i) rs e)

  image_each : (rs : Refusing (ℕ × ℕ)) → Each P rs → Each P (image_refusals l base rs)
  image_each rs e = (memory, (outside base, level_each megabytes 0 rs e))

-- an answer that is its refusals' is refused by them
refuses_by_list : {A : Type 0} (answer : A) (refused : A → Bool) (said : A → ℕ × ℕ) (say : ℕ × ℕ → A) (else : A) (rs : Refusing (ℕ × ℕ))
    → answer ≡ refuses rs say else → refused else ≡ false
    → Each (λ k. (refused (say k) ≡ true) × (said (say k) ≡ k)) rs → RefusesBy answer refused said rs
refuses_by_list answer refused said say else rs e g each =
    subst (λ x. RefusesBy x refused said rs) (sym e)
    (record {
      when = exactly-first say else rs refused said (λ _. g) (λ k f. first_each (λ k. (refused (say k) ≡ true) × (said (say k) ≡ k)) rs k each f);
      otherwise = accepted_clear say else rs refused said (λ _. g) (λ k f. first_each (λ k. (refused (say k) ≡ true) × (said (say k) ≡ k)) rs k each f);
    })

-- a refusal as a verdict and as a list's answer, by its number
abbrev verdict_by : ℕ × ℕ → Result ℕ ImageError
verdict_by r = pick (eqb r.0 4) (Err ImageError.BadMemory) (pick (eqb r.0 17) (Err (ImageError.Outside (physical r.1))) (Err (ImageError.Unequal (physical r.1))))

abbrev inventory_by : ℕ × ℕ → Result ℕ ListError
inventory_by r =
    pick (eqb r.0 4) (Err (ListError.Image ImageError.BadMemory))
    (pick (eqb r.0 12) (Err (ListError.TooShort r.1)) (pick (eqb r.0 17) (Err (ListError.Image (ImageError.Outside (physical r.1)))) (Err (ListError.Image (ImageError.Unequal (physical r.1))))))

check-refuses : (l : List ℕ) (base : ℕ) → RefusesBy (check_of megabytes l base) verdict_refused verdict_said (image_refusals l base [])
unfolding refuses pick
check-refuses l base =
    refuses_by_list (check_of megabytes l base) verdict_refused verdict_said verdict_by (Ok (length (pages_in megabytes l base))) (image_refusals l base [])
    (image-is (λ v. v) verdict_by (Ok (length (pages_in megabytes l base))) refl (λ a. refl) (λ a. refl) l base [] refl) refl
    (image_each (λ k. (verdict_refused (verdict_by k) ≡ true) × (verdict_said (verdict_by k) ≡ k)) (refl, refl) (λ a. (refl, refl)) (λ a. (refl, refl)) l base [] tt)

list-refuses : (l : List ℕ) (base : ℕ) (before : List ℕ) → RefusesBy (list_of megabytes l base before).answer inventory_refused inventory_said (list_refusals l base (length before))
unfolding list_of refuses pick
list-refuses l base before =
    let n : ℕ = length (pages_in megabytes l base) in
    refuses_by_list (list_of megabytes l base before).answer inventory_refused inventory_said inventory_by (Ok (record_size * n)) (list_refusals l base (length before))
    (image-is (λ v. inventory_of v (length before)) inventory_by (Ok (record_size * n)) refl (λ a. refl) (λ a. refl) l base
    ((ltb (length before) (record_size * n), (12, n)) ∷ []) refl) refl
    (image_each (λ k. (inventory_refused (inventory_by k) ≡ true) × (inventory_said (inventory_by k) ≡ k)) (refl, refl) (λ a. (refl, refl)) (λ a. (refl, refl)) l base
    ((ltb (length before) (record_size * n), (12, n)) ∷ []) ((refl, refl), tt))

-- a refused list leaves the lent one
left : (a : Result ℕ ListError) (rs before : List ℕ) → inventory_refused a ≡ true → inventory_left a rs before ≡ before
left (Ok n) rs before h = absurd (false≢true h)
left (Err e) rs before h = refl

list_left : (l : List ℕ) (base : ℕ) (before : List ℕ) → inventory_refused (list_of megabytes l base before).answer ≡ true → (list_of megabytes l base before).records ≡ before
unfolding list_of
list_left l base before h = left (inventory_of (check_of megabytes l base) (length before)) _ before h

pub audit_refuses : AuditRefuses
audit_refuses = record { check = check-refuses; list = list-refuses; unchanged = list_left }
