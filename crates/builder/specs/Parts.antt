-- The image of a list of which only some mappings are written yet: the places are those of the whole list (01, "The
-- builder").
use Rattle.std.specs.Prelude.{◌+◌, ◌-◌, ◌*◌, ◌/◌, ◌^◌, ◌≡◌}
use Rattle.builder.specs.Names.{ℕ, zero, suc, List, [], ltb, leb, length, drop, pick, ◌and◌, virtual, megabytes}
use Rattle.builder.specs.Names.{Mapping, holder, table_of, table_end, table_start, image_length, first_by, second_word, spliced}

-- the word at offset o among the tables of the megabytes below i of the list all, with the mappings ms written
unfoldable pub part_tables : ℕ → List Mapping → List Mapping → ℕ → ℕ → ℕ
part_tables n all ms zero o = 0
part_tables n all ms (suc i) o =
    pick (leb (table_start n all i) o and ltb o (table_end n all (suc i)))
    (second_word ms (table_of all i) i ((o - table_start n all i) / 4))
    (part_tables n all ms i o)

-- word k of the image
unfoldable pub part_word : ℕ → List Mapping → List Mapping → ℕ → ℕ → ℕ
part_word n all ms base k =
    pick (ltb k n)
    (first_by (table_of all k) (base + table_start n all k) (holder ms (virtual (k * 2 ^ 20))))
    (part_tables n all ms n (4 * k))

-- a memory with the mappings behind mapping j written, and with mapping j too
abbrev pub Turned : List Mapping → ℕ → List ℕ → List ℕ → Type 0
Turned ms j before after =
    (base : ℕ) (l : List ℕ) → length l ≡ length before → before ≡ spliced l 0 (part_word megabytes ms (drop (j + 1) ms) base) (image_length megabytes ms / 4)
    → after ≡ spliced l 0 (part_word megabytes ms (drop j ms) base) (image_length megabytes ms / 4)

-- a memory that has the image with no mapping written, and one with all
abbrev pub Filled : List Mapping → List ℕ → List ℕ → Type 0
Filled ms before after =
    (base : ℕ) (l : List ℕ) → length l ≡ length before → before ≡ spliced l 0 (part_word megabytes ms [] base) (image_length megabytes ms / 4)
    → after ≡ spliced l 0 (part_word megabytes ms ms base) (image_length megabytes ms / 4)
