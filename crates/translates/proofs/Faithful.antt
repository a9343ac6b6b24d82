-- What is found where a mapping holds an address: its byte and access, by words inside the image. Assumes nothing.
use Rattle.walk.specs.declared.Table.{Table}
use Rattle.std.proofs.Common.{Option, Some, None}
use Rattle.translates.specs.Names.{◌≡◌, List, ℕ, ◌+◌, ◌≤◌, ◌<◌, VirtualAddress, Mapping, byte_of, image_length}
use Rattle.translates.proofs.Names.{refl, ap, suc, ◌*◌, ◌/◌, ◌%◌, ◌^◌, arith, physical, low_bits, Place, table_of, table_size, table_start}
use Rattle.translates.proofs.Names.{end_next, end_last, image-first, Gives, ReadsInside}
use Rattle.page.proofs.Lower.{upper_high, joined-agree}
use Rattle.translates.proofs.Written.{found_for}
use Rattle.translates.proofs.Over.{reads_for}

-- the page has the mapping's byte at the address, and its access
pub found-gives : (va : VirtualAddress) (h : Option Mapping) → Gives h va (found_for h)
unfolding byte_of
found-gives va (Some m) = (ap physical (joined-agree (low_bits m.kind) _ m.to.0 va.0 (upper_high (low_bits m.kind) m.to.0)), refl)
found-gives va None = tt

-- the words read lie in the image
pub reads_inside : (n : ℕ) (ms : List Mapping) (base : ℕ) (place : ℕ → Place) (va : VirtualAddress) → va.0 / 2 ^ 20 < n
    → ReadsInside base (image_length n ms) (reads_for place base (table_start n ms (va.0 / 2 ^ 20)) va (table_of ms (va.0 / 2 ^ 20)))
reads_inside n ms base place va low = by_table (table_of ms (va.0 / 2 ^ 20)) refl
  where
    first : (base ≤ base + 4 * (va.0 / 2 ^ 20)) × (base + 4 * (va.0 / 2 ^ 20) + 4 ≤ base + image_length n ms)
    first = (omega arith, omega (arith, image-first n ms))

    second : (j : ℕ) → 4 * j + 4 ≤ table_size (table_of ms (va.0 / 2 ^ 20))
        → (base ≤ base + (table_start n ms (va.0 / 2 ^ 20) + 4 * j)) × (base + (table_start n ms (va.0 / 2 ^ 20) + 4 * j) + 4 ≤ base + image_length n ms)
    second j h = (omega arith, omega (arith, end_next n ms (va.0 / 2 ^ 20), end_last n ms (suc (va.0 / 2 ^ 20)) (omega arith)))

    by_table : (t : Option Table) → table_of ms (va.0 / 2 ^ 20) ≡ t → ReadsInside base (image_length n ms) (reads_for place base (table_start n ms (va.0 / 2 ^ 20)) va t)
    by_table (Some Table.Fine) e = (first, second (va.0 / 2 ^ 10 % 2 ^ 10) (omega (arith, ap table_size e)))
    by_table (Some Table.Coarse) e = (first, second (va.0 / 2 ^ 12 % 2 ^ 8) (omega (arith, ap table_size e)))
    by_table None e = first
