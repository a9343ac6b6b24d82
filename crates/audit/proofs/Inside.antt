-- Tables that lie inside a memory, and the test that one does, made by its length. Assumes nothing.
use Rattle.std.specs.Borrow.{Bor}
use Rattle.audit.specs.Names.{◌≡◌, List, Bool, true, false, ℕ, ◌+◌, ◌-◌, ◌*◌, ◌%◌, ◌^◌, ◌<◌, ◌≤◌, leb, Table, index_limit, word_bits}
use Rattle.audit.proofs.Names.{refl, sym, subst, ◌∙◌, arith, le-leb, lt-leb, leb-true, leb-false, and_yes, and_left, and_right, eqb-true, image_ok, table_in}
use lib.Dec.{lit≤}
use Rattle.memory.proofs.Places.{ok_ends}

module _ (base n : ℕ) (t : Table) (at : ℕ) (from : base ≤ at) where
  pub table_short : n < 4 * index_limit t → false ≡ table_in base n t at
  unfolding table_in
  table_short h = sym (and_yes _ _ (le-leb base at from) ∙ lt-leb (at + 4 * index_limit t) (base + n) (omega arith))

  pub table_fits : (size : ℕ) → size ≡ 4 * index_limit t → size ≤ n → leb (at - base) (n - size) ≡ table_in base n t at
  unfolding table_in
  table_fits size e h = by_test (leb (at - base) (n - size)) refl ∙ sym (and_yes _ _ (le-leb base at from))
    where
      by_test : (b : Bool) → leb (at - base) (n - size) ≡ b → b ≡ leb (at + 4 * index_limit t) (base + n)
      by_test true f = sym (le-leb (at + 4 * index_limit t) (base + n) (omega (arith, e, leb-true (at - base) (n - size) f)))
      by_test false f = sym (lt-leb (at + 4 * index_limit t) (base + n) (omega (arith, e, leb-false (at - base) (n - size) f)))

-- a table that lies inside begins and ends there
pub inside-from : (base n : ℕ) (t : Table) (at : ℕ) → table_in base n t at ≡ true → base ≤ at
unfolding table_in
inside-from base n t at h = leb-true _ _ (and_left _ _ h)

pub inside_to : (base n : ℕ) (t : Table) (at : ℕ) → table_in base n t at ≡ true → at + 4 * index_limit t ≤ base + n
unfolding table_in
inside_to base n t at h = leb-true _ _ (and_right (leb base at) _ h)

pub table_inside : (base n : ℕ) (t : Table) (at : ℕ) → base ≤ at → at + 4 * index_limit t ≤ base + n → table_in base n t at ≡ true
unfolding table_in
table_inside base n t at h g = and_yes _ _ (le-leb base at h) ∙ le-leb (at + 4 * index_limit t) (base + n) g

-- a table has 1,024 words at most
pub limit-most : (t : Table) → index_limit t ≤ 1024
limit-most Table.Coarse = lit≤ tt
limit-most Table.Fine = lit≤ tt

-- a memory that may hold an image begins at a multiple of 128, and ends at 2^32 at the latest
pub image-ends : (base n : ℕ) → image_ok base n ≡ true → base + n ≤ 2 ^ 32
unfolding image_ok
image-ends base n h = ok_ends base n (and_right _ _ h)

pub image-base : (base n : ℕ) → image_ok base n ≡ true → base % 128 ≡ 0
unfolding image_ok
image-base base n h = eqb-true _ _ (and_left _ _ h)

-- the addresses that a table's words stand for lie in its megabyte
pub word_low : (t : Table) (j : ℕ) → j < index_limit t → j * 2 ^ word_bits t < 2 ^ 20
word_low Table.Coarse j h = omega arith
word_low Table.Fine j h = omega arith

-- what holds of a table's words, held elsewhere
pub moved : (P : Table → List ℕ → ℕ → Type 0) (t u : Table) (m n : Bor (List ℕ)) (o a : ℕ) → m ≡ n → o ≡ a → t ≡ u → P t m.now o → P u n.now a
moved P t u m n o a e f g p =
    subst (λ (x : Table). P x n.now a) g (subst (λ (x : ℕ). P t n.now x) f (subst (λ (x : Bor (List ℕ)). P t x.now o) e p))
