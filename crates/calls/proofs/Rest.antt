-- The calls that are left from record i on. Assumes nothing.
use Rattle.calls.specs.Names.{◌≡◌, true, false, List, [], ◌∷◌, ℕ, zero, suc, ◌+◌, ◌*◌, ◌%◌, ◌≤◌, length}
use Rattle.calls.proofs.Names.{refl, ◌∙◌, ap, eq-eqb, ◌-◌, ◌<◌, arith, and_yes, and_no, and_right, call_at, calls_from, is_good, good_calls, all_good}
use Rattle.page.proofs.Picks.{and_is, and_left, pick_yes}
use Rattle.page.specs.Pick.{◌and◌}
use Rattle.std.proofs.lemmas.List.{drop-drop}
use Rattle.std.specs.List.{list_all}
use Rattle.std.specs.Simd.{first_chunks}
use Rattle.calls.specs.Names.{Bool, take, drop, None}
use Rattle.calls.proofs.Names.{sym, ap₂, call_of, le-leb, lt-leb, pick_no}
use Rattle.calls.specs.Records.{call_size, call_count}

-- the call of the record at an offset, and none past the end
pub call_there : (l r : List ℕ) (at : ℕ) → at + call_size ≤ length l → r ≡ take call_size (drop at l) → call_at l at ≡ call_of r
unfolding call_at
call_there l r at h e = pick_yes _ _ _ (le-leb _ _ h) ∙ ap call_of (sym e)

pub call_past : (l : List ℕ) (at : ℕ) → length l < at + call_size → call_at l at ≡ None
unfolding call_at
call_past l at h = pick_no _ _ _ (lt-leb _ _ h)

-- record i, then those behind it
pub calls_next : (l : List ℕ) (n i : ℕ) → i < n → calls_from l i (n - i) ≡ call_at l (call_size * i) ∷ calls_from l (i + 1) (n - (i + 1))
unfolding calls_from
calls_next l n i h = ap (calls_from l i) (let e : n - i ≡ suc (n - (i + 1)) = omega arith in e)

-- none
pub calls-none : (l : List ℕ) (n i : ℕ) → n ≤ i → calls_from l i (n - i) ≡ []
unfolding calls_from
calls-none l n i h = ap (calls_from l i) (let e : n - i ≡ 0 = omega arith in e)

pub calls-all : (l : List ℕ) (n m : ℕ) → n ≡ m → calls_from l 0 (n - 0) ≡ calls_from l 0 m
calls-all l n m h = ap (calls_from l 0) (let e : n - 0 ≡ m = omega arith in e)

-- the records as pieces of 12 bytes
pub good_pieces : (l : List ℕ) (i k : ℕ) → call_size * (i + k) ≤ length l
    → list_all (λ r. is_good (call_of r)) (first_chunks call_size k (drop (call_size * i) l)) ≡ good_calls (calls_from l i k)
unfolding calls_from
good_pieces l i zero h = refl
good_pieces l i (suc k) h =
    let rest : List ℕ → Bool = λ d. list_all (λ r. is_good (call_of r)) (first_chunks call_size k d) in
    let here = call_there l _ (call_size * i) (omega arith) refl in
    and_is _ _
    ∙ ap₂ ◌and◌ (ap is_good (sym here)) (ap rest (drop-drop call_size (call_size * i) l ∙ ap (λ n. drop n l) (let e : call_size * i + call_size ≡ call_size * (i + 1) = omega arith in e))
    ∙ good_pieces l (i + 1) k (omega arith))

-- of good calls from record j on, each is good
good-from : (l : List ℕ) (n j k i : ℕ) → i ≡ j + k → k < n → good_calls (calls_from l j n) ≡ true → is_good (call_at l (call_size * i)) ≡ true
unfolding calls_from
good-from l zero j k i e h g = absurd (let f : ⊥ = omega arith in f)
good-from l (suc n) j zero i e h g = ap (λ (m : ℕ). is_good (call_at l (call_size * m))) (let f : i ≡ j = omega arith in f) ∙ and_left _ _ g
good-from l (suc n) j (suc k) i e h g = good-from l n (j + 1) k i (omega arith) (omega arith) (and_right _ _ g)

-- where all are good, each is
pub all_good_at : (l : List ℕ) (i : ℕ) → all_good l ≡ true → i < call_count l → is_good (call_at l (call_size * i)) ≡ true
unfolding all_good
all_good_at l i g h = good-from l (call_count l) 0 i i (omega arith) h (and_right _ _ g)

-- where each of whole records is good, all are
good_each : (l : List ℕ) (n j : ℕ) → ((i : ℕ) → j ≤ i → i < j + n → is_good (call_at l (call_size * i)) ≡ true) → good_calls (calls_from l j n) ≡ true
unfolding calls_from
good_each l zero j h = refl
good_each l (suc n) j h = and_yes _ _ (h j (omega arith) (omega arith)) ∙ good_each l n (j + 1) (λ i a b. h i (omega arith) (omega arith))

pub each_all_good : (l : List ℕ) → length l % call_size ≡ 0 → ((i : ℕ) → i < call_count l → is_good (call_at l (call_size * i)) ≡ true) → all_good l ≡ true
unfolding all_good
each_all_good l e h = and_yes _ _ (eq-eqb _ _ e) ∙ good_each l (call_count l) 0 (λ i _ b. h i (omega arith))
