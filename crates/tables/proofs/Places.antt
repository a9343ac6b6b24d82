-- Where the tables lie. Assumes nothing.
use Rattle.std.proofs.Common.{Option, Some, None}
use Rattle.walk.specs.declared.Table.{Table}
use Rattle.tables.specs.Names.{◌≡◌, List, ℕ, zero, suc, ◌+◌, ◌*◌, ◌-◌, ◌%◌, Mapping}
use Rattle.tables.proofs.Names.{refl, sym, ap, ap₂, ◌∙◌, subst, ◌≤◌, arith, lit≤, table_of, start_after, table_end, table_start}
use native.Mathlib.Nat.{le_refl}
use native.Mathlib.Numerals.{add-one}
use Rattle.tables.specs.Tables.{table_size, image_length}

-- a table begins no earlier than the offset that it follows, less than its own size later, at a multiple of 4
pub start-ge : (t : Option Table) (e : ℕ) → e ≤ start_after t e
start-ge (Some Table.Fine) e = omega arith
start-ge (Some Table.Coarse) e = omega arith
start-ge None e = le_refl e

pub start-le : (t : Option Table) (e : ℕ) → start_after t e ≤ e + 4095
start-le (Some Table.Fine) e = omega arith
start-le (Some Table.Coarse) e = omega arith
start-le None e = omega arith

pub start_4 : (t : Option Table) (e : ℕ) → e % 4 ≡ 0 → start_after t e % 4 ≡ 0
start_4 (Some Table.Fine) e h = omega arith
start_4 (Some Table.Coarse) e h = omega arith
start_4 None e h = h

pub size_le : (t : Option Table) → table_size t ≤ 4096
size_le (Some Table.Fine) = lit≤ tt
size_le (Some Table.Coarse) = lit≤ tt
size_le None = lit≤ tt

pub size_4 : (t : Option Table) → table_size t % 4 ≡ 0
size_4 (Some Table.Fine) = refl
size_4 (Some Table.Coarse) = refl
size_4 None = refl

module _ (n : ℕ) (ms : List Mapping) where
  pub end-start : (i : ℕ) → table_end n ms i ≤ table_start n ms i
  unfolding table_start
  end-start i = start-ge (table_of ms i) (table_end n ms i)

  pub end_next : (i : ℕ) → table_end n ms (suc i) ≡ table_start n ms i + table_size (table_of ms i)
  unfolding table_end table_start
  end_next i = refl

  end_mono : (d i : ℕ) → table_end n ms i ≤ table_end n ms (d + i)
  end_mono zero i = subst (λ (k : ℕ). table_end n ms i ≤ table_end n ms k) (let e : i ≡ zero + i = omega arith in e) (le_refl _)
  end_mono (suc d) i =
      let r : table_end n ms i ≤ table_end n ms (suc (d + i)) = omega (arith, end_mono d i, end-start (d + i), end_next (d + i)) in
      subst (λ (k : ℕ). table_end n ms i ≤ table_end n ms k) (let e : suc (d + i) ≡ suc d + i = omega arith in e) r

  -- tables of lower megabytes end earlier, and none begins in the first level
  pub end-le : (i j : ℕ) → i ≤ j → table_end n ms i ≤ table_end n ms j
  end-le i j h = subst (λ (k : ℕ). table_end n ms i ≤ table_end n ms k) (let e : j - i + i ≡ j = omega arith in e) (end_mono (j - i) i)

  pub end-first : (i : ℕ) → 4 * n ≤ table_end n ms i
  unfolding table_end
  end-first i = end-le 0 i (omega arith)

  pub end_last : (i : ℕ) → i ≤ n → table_end n ms i ≤ image_length n ms
  unfolding image_length
  end_last i h = end-le i n h

  pub end_bound : (i : ℕ) → table_end n ms i ≤ 4 * n + 8192 * i
  unfolding table_end
  end_bound zero = omega arith
  end_bound (suc i) =
      omega (arith, end_bound i, start-le (table_of ms i) (table_end n ms i), size_le (table_of ms i))

  pub end_4 : (i : ℕ) → table_end n ms i % 4 ≡ 0
  unfolding table_end
  end_4 zero = omega arith
  end_4 (suc i) = omega (arith, start_4 (table_of ms i) (table_end n ms i) (end_4 i), size_4 (table_of ms i))

  -- the code's turn from one megabyte to the next
  pub turn_start : (i e s : ℕ) (t : Option Table) → t ≡ table_of ms i → e ≡ table_end n ms i → s ≡ start_after t e → s ≡ table_start n ms i
  unfolding table_start
  turn_start i e s t p q r = r ∙ ap₂ start_after p q

  pub turn_end : (i s z : ℕ) (t : Option Table) → t ≡ table_of ms i → s ≡ table_start n ms i → z ≡ table_size t → s + z ≡ table_end n ms (i + 1)
  turn_end i s z t p q r =
      ap₂ (λ (a b : ℕ). a + b) q (r ∙ ap table_size p) ∙ sym (end_next i) ∙ ap (table_end n ms) (sym (add-one i))

-- the image's length is a multiple of 4, and the first level lies in it
pub image_4 : (n : ℕ) (ms : List Mapping) → image_length n ms % 4 ≡ 0
unfolding image_length
image_4 n ms = end_4 n ms n

pub image-first : (n : ℕ) (ms : List Mapping) → 4 * n ≤ image_length n ms
unfolding image_length
image-first n ms = end-first n ms n
