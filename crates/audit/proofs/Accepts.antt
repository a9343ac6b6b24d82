-- What an image is that is accepted: its tables lie inside, and no word of them is broken. Assumes nothing.
use Rattle.std.proofs.Common.{Result, Ok}
use Rattle.audit.specs.declared.ImageError.{ImageError}
use Rattle.audit.specs.Names.{◌≡◌, Bool, true, false, not, List, ℕ, zero, suc, ◌+◌, ◌-◌, ◌*◌, ◌<◌, ◌≤◌, ltb, length, pick, word_at, Table, First}
use Rattle.audit.specs.Names.{first_of, index_limit}
use Rattle.audit.proofs.Names.{refl, sym, ap, ◌∙◌, subst, arith, dec_le, not-false, le-ltb, pick_yes, pick_no, broken, pages_in, words_checked, table_in}
use Rattle.audit.proofs.Names.{table_checked, first_checked, level_checked, image_ok, check_of, Unbroken, TableListable, FirstSound}
use borrow.Author.Tests.{ltb-false}
use Rattle.audit.proofs.Verdicts.{words-good, table_words_lem, err_refuses}

-- a test that refuses does not hold where the verdict is good
passes : (b : Bool) (v u : Result ℕ ImageError) (k : ℕ) → ((n : ℕ) → v ≡ Ok n → ⊥) → pick b v u ≡ Ok k → (b ≡ false) × (u ≡ Ok k)
passes true v u k odd e = absurd (odd k (sym (pick_yes true v u refl) ∙ e))
passes false v u k odd e = (refl, sym (pick_no false v u refl) ∙ e)

module _ (l : List ℕ) (base : ℕ) where
  words_accept : (t : Table) (at n j k : ℕ) (rest : Result ℕ ImageError) → words_checked t l base at j n rest ≡ Ok k → Unbroken t l (at - base) j n × (rest ≡ Ok k)
  unfolding words_checked
  words_accept t at zero j k rest e = (λ x p q. absurd (omega arith), e)
  words_accept t at (suc n) j k rest e =
      let s = passes (broken t l (at - base) j) _ _ k (err_refuses _) e in
      let r = words_accept t at n (suc j) k rest s.1 in (
        (λ x p q. elim (dec_le x j) [
          | yes h ↦ subst (λ (y : ℕ). broken t l (at - base) y ≡ false) (let z : j ≡ x = omega arith in z) s.0
          | no h ↦ r.0 x (omega arith) (omega arith)
        ]),
        r.1,
      )

  table_accept : (t : Table) (i at k : ℕ) (rest : Result ℕ ImageError) → table_checked t l base i at rest ≡ Ok k → TableListable t l base at × (rest ≡ Ok k)
  unfolding table_checked
  table_accept t i at k rest e =
      let s = passes (not (table_in base (length l) t at)) _ _ k (err_refuses _) e in
      let r = words_accept t at (index_limit t) 0 k rest s.1 in
      (record { inside = not-false _ s.0; unbroken = r.0 }, r.1)

  first_accept : (i k : ℕ) (d : First) (rest : Result ℕ ImageError) → first_checked l base i d rest ≡ Ok k → FirstSound l base d × (rest ≡ Ok k)
  first_accept i k First.Fault rest e = (tt, e)
  first_accept i k (First.Whole p) rest e = (tt, e)
  first_accept i k (First.Coarse at) rest e = table_accept Table.Coarse i at.0 k rest e
  first_accept i k (First.Fine at) rest e = table_accept Table.Fine i at.0 k rest e

  -- each first-level word names nothing, a section, or such a table
  abbrev pub LevelSound : ℕ → ℕ → Type 0
  LevelSound i n = (x : ℕ) → i ≤ x → x < i + n → FirstSound l base (first_of (word_at l (4 * x)))

  level_accept : (n i k : ℕ) (rest : Result ℕ ImageError) → level_checked l base i n rest ≡ Ok k → LevelSound i n × (rest ≡ Ok k)
  unfolding level_checked
  level_accept zero i k rest e = (λ x p q. absurd (omega arith), e)
  level_accept (suc n) i k rest e =
      let s = first_accept i k (first_of (word_at l (4 * i))) _ e in
      let r = level_accept n (suc i) k rest s.1 in (
        (λ x p q. elim (dec_le x i) [
          | yes h ↦ subst (λ (y : ℕ). FirstSound l base (first_of (word_at l (4 * y)))) (let z : i ≡ x = omega arith in z) s.0
          | no h ↦ r.0 x (omega arith) (omega arith)
        ]),
        r.1,
      )

  -- and then nothing is refused
  table_sound : (t : Table) (i at : ℕ) (rest : Result ℕ ImageError) → TableListable t l base at → table_checked t l base i at rest ≡ rest
  table_sound t i at rest h = table_words_lem t l base at i rest h.inside ∙ words-good t l base at (index_limit t) 0 rest h.unbroken

  first-sound : (i : ℕ) (d : First) (rest : Result ℕ ImageError) → FirstSound l base d → first_checked l base i d rest ≡ rest
  first-sound i First.Fault rest h = refl
  first-sound i (First.Whole p) rest h = refl
  first-sound i (First.Coarse at) rest h = table_sound Table.Coarse i at.0 rest h
  first-sound i (First.Fine at) rest h = table_sound Table.Fine i at.0 rest h

  level-sound : (n i : ℕ) (rest : Result ℕ ImageError) → LevelSound i n → level_checked l base i n rest ≡ rest
  unfolding level_checked
  level-sound zero i rest f = refl
  level-sound (suc n) i rest f =
      first-sound i (first_of (word_at l (4 * i))) _ (f i (omega arith) (omega arith)) ∙ level-sound n (suc i) rest (λ x p q. f x (omega arith) (omega arith))

-- the check as a whole
pub record Audited (n : ℕ) (l : List ℕ) (base : ℕ) : Type 0 where
  pub memory : image_ok base (length l) ≡ true
  pub first : 4 * n ≤ length l
  pub level : LevelSound l base 0 n

good-is : (k c : ℕ) → ◌≡◌ {A = Result ℕ ImageError} (Ok c) (Ok k) → k ≡ c
good-is k c e = cc

pub accepted_audited : (n : ℕ) (l : List ℕ) (base k : ℕ) → check_of n l base ≡ Ok k → Audited n l base × (k ≡ length (pages_in n l base))
unfolding check_of
accepted_audited n l base k e =
    let s = passes (not (image_ok base (length l))) _ _ k (err_refuses _) e in
    let f = passes (ltb (length l) (4 * n)) _ _ k (err_refuses _) s.1 in
    let r = level_accept l base n 0 k _ f.1 in
    (record { memory = not-false _ s.0; first = ltb-false _ _ f.0; level = r.0 }, good-is k _ r.1)

pub audited_accepted : (n : ℕ) (l : List ℕ) (base : ℕ) → Audited n l base → check_of n l base ≡ Ok (length (pages_in n l base))
unfolding check_of
audited_accepted n l base a =
    pick_no _ _ _ (ap not a.memory) ∙ pick_no _ _ _ (le-ltb _ _ a.first) ∙ level-sound l base n 0 _ a.level
