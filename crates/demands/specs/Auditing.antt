-- The check and the list of an image, demand 1 (02, P4): each refusal, with the address or count beside it, exactly when the paper says, in the one order of words.
use Rattle.audit.specs.declared.ListError.{ListError}
use Rattle.std.specs.Prelude.{Result}
use Rattle.audit.specs.declared.ImageError.{ImageError}
use Rattle.std.specs.Prelude.{◌+◌, ◌-◌, ◌*◌, ◌≡◌, ◌∷◌}
use Rattle.demands.specs.Demands.Names.{megabytes, ℕ, zero, suc, Bool, true, false, not, List, [], eqb, ltb, length, Refusing, First, Clear}
use Rattle.demands.specs.Demands.Names.{check_of, list_of, pages_in, record_size, broken, image_ok, table_in, verdict_number, verdict_value}
use Rattle.demands.specs.Demands.Names.{inventory_number, inventory_value, Entry, Table, index_limit, first_of, word_at}

-- n words of a table from word j on, 18 with each one's address; then the rest
abbrev pub word_refusals : Table → List ℕ → ℕ → ℕ → ℕ → ℕ → Refusing (ℕ × ℕ) → Refusing (ℕ × ℕ)
word_refusals t l base at j zero rest = rest
word_refusals t l base at j (suc n) rest = (broken t l (at - base) j, (18, at + 4 * j)) ∷ word_refusals t l base at (suc j) n rest

-- first-level word i that names a table: 17 with its own address, then the table's words
abbrev pub table_refusals : Table → List ℕ → ℕ → ℕ → ℕ → Refusing (ℕ × ℕ) → Refusing (ℕ × ℕ)
table_refusals t l base i at rest = (not (table_in base (length l) t at), (17, base + 4 * i)) ∷ word_refusals t l base at 0 (index_limit t) rest

abbrev pub entry_refusals : List ℕ → ℕ → ℕ → Entry → Refusing (ℕ × ℕ) → Refusing (ℕ × ℕ)
entry_refusals l base i Entry.Fault rest = rest
entry_refusals l base i (Entry.Whole p) rest = rest
entry_refusals l base i (Entry.Coarse at) rest = table_refusals Table.Coarse l base i at.0 rest
entry_refusals l base i (Entry.Fine at) rest = table_refusals Table.Fine l base i at.0 rest

abbrev pub level_refusals : List ℕ → ℕ → ℕ → ℕ → Refusing (ℕ × ℕ) → Refusing (ℕ × ℕ)
level_refusals l base i zero rest = rest
level_refusals l base i (suc n) rest = entry_refusals l base i (first_of (word_at l (4 * i))) (level_refusals l base (suc i) n rest)

-- 4; 17 with the base where the first level itself is not inside; then every word; then the rest
abbrev pub image_refusals : List ℕ → ℕ → Refusing (ℕ × ℕ) → Refusing (ℕ × ℕ)
image_refusals l base rest =
    (not (image_ok base (length l)), (4, 0)) ∷ (ltb (length l) (4 * megabytes), (17, base)) ∷ level_refusals l base 0 megabytes rest

-- a list: after these, 12 with the number of pages
abbrev pub list_refusals : List ℕ → ℕ → ℕ → Refusing (ℕ × ℕ)
list_refusals l base room =
    image_refusals l base ((ltb room (record_size * length (pages_in megabytes l base)), (12, length (pages_in megabytes l base))) ∷ [])

-- refused: the number is not 0; what is said is the number and the value beside it
abbrev pub verdict_refused : Result ℕ ImageError → Bool
verdict_refused v = not (eqb (verdict_number v) 0)

abbrev pub verdict_said : Result ℕ ImageError → ℕ × ℕ
verdict_said v = (verdict_number v, verdict_value v)

abbrev pub inventory_refused : Result ℕ ListError → Bool
inventory_refused a = not (eqb (inventory_number a) 0)

abbrev pub inventory_said : Result ℕ ListError → ℕ × ℕ
inventory_said a = (inventory_number a, inventory_value a)

-- an answer refuses with a number and a value exactly when their condition is the first of a list that holds, and goes on exactly when none does
pub record RefusesBy {A : Type 0} (answer : A) (refused : A → Bool) (said : A → ℕ × ℕ) (rs : Refusing (ℕ × ℕ)) : Type 0 where
  pub when :
      (k : ℕ × ℕ) → ((refused answer ≡ true) × (said answer ≡ k) → First rs k) × (First rs k → (refused answer ≡ true) × (said answer ≡ k))
  pub otherwise : (refused answer ≡ false → Clear rs) × (Clear rs → refused answer ≡ false)

-- so do the check and the list of any bytes, and a refused list leaves every byte of the lent one
pub record AuditRefuses : Type 0 where
  pub check : (l : List ℕ) (base : ℕ) → RefusesBy (check_of megabytes l base) verdict_refused verdict_said (image_refusals l base [])
  pub list :
      (l : List ℕ) (base : ℕ) (before : List ℕ)
      → RefusesBy (list_of megabytes l base before).answer inventory_refused inventory_said (list_refusals l base (length before))
  pub unchanged :
      (l : List ℕ) (base : ℕ) (before : List ℕ) → inventory_refused (list_of megabytes l base before).answer ≡ true → (list_of megabytes l base before).records ≡ before
