-- A text that is accepted is never refused 10. Assumes nothing.
use Rattle.std.proofs.Common.{Option, Some, None}
use Rattle.listing.specs.declared.ReadError.{ReadError}
use Rattle.std.proofs.Common.{Ok}
use Rattle.std.proofs.Common.{Result, Err}
use Rattle.records.specs.declared.BadList.{BadList}
use Rattle.listing.specs.Names.{◌≡◌, Bool, true, false, not, List, [], ◌∷◌, ◌++◌, ℕ, zero, suc, ◌+◌, ◌*◌, ◌≤◌, ◌<◌, leb, ltb, length, take}
use Rattle.listing.specs.Names.{drop, set, pick, ◌or◌, megabytes, Mapping, record_size, record_at, well_formed, most, checked, Wrong}
use Rattle.listing.proofs.Names.{refl, sym, ap, ◌∙◌, subst, append_assoc, arith, dec_le, lt-leb, leb-false, ltb-false, length-append}
use Rattle.listing.proofs.Names.{length-drop, take-append-drop, length-take-le, take_at, drop_at, pick_no, pick_by, or_no, parsed, lines_of}
use Rattle.listing.proofs.Names.{record_of, pasted, Reading, reading, by_said, read_lines, read_text}
use lib.Seq.{take-append-le, drop-append-le}
use Rattle.records.specs.Refusals.{bad, overlapping, checked_from, begun}
use Rattle.listing.specs.Theorems.{NeverBad}
use Rattle.wire.proofs.Pastes.{pasted_length}
use Rattle.listing.proofs.Sound.{SoundSaid, sound-said, Sound, record_formed}

-- a record that lies in the front of a memory
record_front : (a b : List ℕ) (j : ℕ) → 12 * j + 12 ≤ length a → record_at (a ++ b) j ≡ record_at a j
record_front a b j h =
    ap (take 12) (drop-append-le (12 * j) a b (omega arith)) ∙ take-append-le 12 (drop (12 * j) a) b (omega (arith, length-drop (12 * j) a))

pub record_taken : (l : List ℕ) (n j : ℕ) → j < n → 12 * n ≤ length l → record_at (take (12 * n) l) j ≡ record_at l j
record_taken l n j h f =
    let e = length-take-le (12 * n) l f in
    sym (ap (λ (m : List ℕ). record_at m j) (sym (take-append-drop (12 * n) l)) ∙ record_front (take (12 * n) l) (drop (12 * n) l) j (omega arith))

-- after record n is put, the ones before it are as they were, and it is there
module _ (l r : List ℕ) (n : ℕ) (w : length r ≡ 12) (f : 12 * n + 12 ≤ length l) where
  front_length : length (take (12 * n) l) ≡ 12 * n
  front_length = length-take-le (12 * n) l (omega arith)

  pub put_before : (j : ℕ) → j < n → record_at (pasted l (12 * n) r) j ≡ record_at l j
  unfolding pasted
  put_before j h =
      let e = front_length in
      let g = length-append (take (12 * n) l) r in
      record_front (take (12 * n) l ++ r) (drop (12 * n + length r) l) j (omega arith)
      ∙ record_front (take (12 * n) l) r j (omega arith)
      ∙ record_taken l n j h (omega arith)

  pub put_there : record_at (pasted l (12 * n) r) n ≡ r
  unfolding pasted
  put_there =
      ap (λ (m : List ℕ). take 12 (drop (12 * n) m)) (append_assoc (take (12 * n) l) r (drop (12 * n + length r) l))
      ∙ ap (take 12) (drop_at (take (12 * n) l) (r ++ drop (12 * n + length r) l) (12 * n) front_length)
      ∙ take_at r (drop (12 * n + length r) l) 12 w

-- n well-formed records lie at the front
pub record Good (l : List ℕ) (n : ℕ) : Type 0 where
  pub few : n ≤ most
  pub room : record_size * most ≤ length l
  pub each : (j : ℕ) → j < n → well_formed megabytes (record_at l j) ≡ true

good_more : (l : List ℕ) (n : ℕ) (m : Mapping) → Good l n → n < most → Sound m → Good (pasted l (12 * n) (record_of m)) (suc n)
unfolding record_of
good_more l n m g h s = record {
  few = omega arith;
  room = subst (λ (k : ℕ). record_size * most ≤ k) (sym (pasted_length l (12 * n) (record_of m) (omega (arith, g.room)))) g.room;
  each = λ j k. elim (dec_le n j) [
    | yes q ↦ subst (λ (i : ℕ). well_formed megabytes (record_at (pasted l (12 * n) (record_of m)) i) ≡ true) (let z : n ≡ j = omega arith in z)
        (ap (well_formed megabytes) (put_there l (record_of m) n refl (omega (arith, g.room))) ∙ record_formed m s)
    | no q ↦ ap (well_formed megabytes) (put_before l (record_of m) n refl (omega (arith, g.room)) j (omega arith)) ∙ g.each j (omega arith)
  ];
}

-- what an accepting answer leaves is good
abbrev Accepts : Reading → Type 0
Accepts r = (q : ℕ) → r.answer ≡ Ok q → Good r.records q

accept_bad : (i : ℕ) (w : Wrong) (rs ls : List ℕ) → Accepts (reading (Err (ReadError.Bad i w)) rs ls)
accept_bad i w rs ls q e = let z : ◌≡◌ {A = ℕ} 0 1 = cc in absurd (omega arith)

accept_lines : (t : List (List ℕ)) (i n : ℕ) (rs ls : List ℕ) → Good rs n → Accepts (read_lines i n t rs ls)
unfolding read_lines
accept_lines [] i n rs ls g = λ q e. let z : n ≡ q = cc in subst (Good rs) z g
accept_lines (l ∷ t) i n rs ls g =
    go (parsed l) (sound-said l) (accept_lines t (suc i) n rs ls g) (λ m h s. accept_lines t (suc i) (suc n) (pasted rs (12 * n) (record_of m)) (set ls n i) (good_more rs n m g h s))
  where
    go : (s : Result (Option Mapping) Wrong) → SoundSaid s → Accepts (read_lines (suc i) n t rs ls)
        → ((m : Mapping) → n < most → Sound m → Accepts (read_lines (suc i) (suc n) t (pasted rs (12 * n) (record_of m)) (set ls n i)))
        → Accepts (by_said s (read_lines (suc i) n t rs ls)
        (λ m. pick (leb most n) (reading (Err (ReadError.Bad i Wrong.TooManyMappings)) rs ls) (read_lines (suc i) (suc n) t (pasted rs (12 * n) (record_of m)) (set ls n i)))
        (λ w. reading (Err (ReadError.Bad i w)) rs ls))
    go (Ok None) s a b = a
    go (Ok (Some m)) s a b = pick_by Accepts _ _ _ (λ _. accept_bad i Wrong.TooManyMappings rs ls) (λ h. b m (leb-false most n h) s)
    go (Err w) s a b = accept_bad i w rs ls

first : (a b : Bool) → (a or b) ≡ false → a ≡ false
unfolding ◌or◌
first true b h = h
first false b h = refl

accept_text : (t rs ls : List ℕ) → Accepts (read_text t rs ls)
unfolding read_text
accept_text t rs ls =
    pick_by Accepts _ _ _ (λ _ q e. let z : ◌≡◌ {A = ℕ} 0 1 = cc in absurd (omega arith))
    (λ h. pick_by Accepts _ _ _ (λ _. accept_bad 0 Wrong.TextTooLong rs ls)
    (λ _. accept_lines (lines_of t) 1 0 rs ls (record { few = omega arith; room = room h; each = λ j k. absurd (omega arith) })))
  where
    room : (ltb (length rs) (record_size * most) or ltb (length ls) most) ≡ false → record_size * most ≤ length rs
    room h = ltb-false (length rs) (record_size * most) (first _ _ h)

-- a check that finds no record bad does not say so
never_from : (k i q : ℕ) (rs : List ℕ) → ((j : ℕ) → j < i + k → bad megabytes rs j ≡ false) → checked_from megabytes rs i k ≡ Err (BadList.BadRecord q) → ⊥
unfolding checked_from
never_from zero i q rs f e = let z : ◌≡◌ {A = ℕ} 0 1 = cc in omega arith
never_from (suc k) i q rs f e =
    later (never_from k (suc i) q rs (λ j h. f j (omega arith))) (sym (pick_no _ _ _ (f i (omega arith))) ∙ e)
  where
    later : (checked_from megabytes rs (suc i) k ≡ Err (BadList.BadRecord q) → ⊥) → pick (overlapping rs i) (Err (BadList.Overlap i)) (checked_from megabytes rs (suc i) k) ≡ Err (BadList.BadRecord q) → ⊥
    later r = pick_by (λ (c : Result Unit BadList). c ≡ Err (BadList.BadRecord q) → ⊥) _ _ _ (λ _ x. let z : ◌≡◌ {A = ℕ} 0 1 = cc in omega arith) (λ _. r)

never : (l : List ℕ) (n q : ℕ) → Good l n → checked megabytes (take (12 * n) l) ≡ Err (BadList.BadRecord q) → ⊥
unfolding checked bad
never l n q g e =
    let len = length-take-le (12 * n) l (omega (arith, g.few, g.room)) in
    never_from (begun (take (12 * n) l)) 0 q (take (12 * n) l)
    (λ j h. let k : j < n = omega arith in
    or_no _ _ (lt-leb most j (omega (arith, g.few))) ∙ ap (λ (r : List ℕ). not (well_formed megabytes r)) (record_taken l n j k (omega (arith, g.few, g.room))) ∙ ap not (g.each j k))
    e

pub never_bad : NeverBad
never_bad t rs ls n i e = let g = accept_text t rs ls n e in (g.few, never (read_text t rs ls).records n i g)
