-- The image of no mappings. Assumes nothing.
use Rattle.std.proofs.Common.{Option}
use Rattle.walk.specs.declared.Table.{Table}
use Rattle.std.proofs.Common.{Some, None}
use Rattle.builder.specs.Image.{length_in}
use Rattle.builder.specs.Names.{◌≡◌, List, [], ℕ, zero, suc, ◌+◌, ◌/◌, ◌≤◌, ◌<◌, length, megabytes, mappings, holder, table_of, table_size}
use Rattle.builder.specs.Names.{table_end, table_start, image_length, pick, first_by, image_word, spliced}
use Rattle.builder.proofs.Names.{refl, sym, ap, ◌∙◌, arith, lt-ltb, pick_yes, start_after, ◌or◌, first_word, written, spliced_same}
use Rattle.records.specs.Mappings.{mappings_from}
use Rattle.records.specs.Noted.{has_kind}
use Rattle.builder.proofs.Whole.{front, short-in, fits-in, written_short, written-image}

no_table : (i : ℕ) → table_of [] i ≡ None
unfolding table_of has_kind pick ◌or◌
no_table i = refl

no_end : (i : ℕ) → table_end megabytes [] i ≡ 64
unfolding table_end
no_end zero = refl
no_end (suc i) = ap (λ (t : Option Table). start_after t (table_end megabytes [] i) + table_size t) (no_table i) ∙ (let e = no_end i in let z : table_end megabytes [] i + 0 ≡ 64 = omega arith in z)

pub none-length : image_length megabytes [] ≡ 64
unfolding image_length
none-length = no_end megabytes

none-word : (base k : ℕ) → k < megabytes → 0 ≡ image_word megabytes [] base k
unfolding image_word first_word holder
none-word base k h = sym (pick_yes _ _ _ (lt-ltb k megabytes h) ∙ ap (λ (t : Option Table). first_by t (base + table_start megabytes [] k) None) (no_table k))

pub none_written : (base : ℕ) (l o : List ℕ) → 64 ≤ length l → o ≡ spliced l 0 (λ (_ : ℕ). 0) 16 → o ≡ written [] base l
none_written base l o room e =
    e
    ∙ spliced_same l 0 16 _ (image_word megabytes [] base) (omega arith) (λ k h. none-word base k h)
    ∙ ap (λ (n : ℕ). spliced l 0 (image_word megabytes [] base) (n / 4)) (sym none-length)
    ∙ front megabytes [] base l (omega (arith, none-length))
    ∙ sym (written-image [] base l (omega (arith, none-length)))

pub none_short : (base : ℕ) (l : List ℕ) → length l < 64 → l ≡ written [] base l
none_short base l h = sym (written_short [] base l (omega (arith, none-length)))

pub none-in : (l : List ℕ) → 64 ≤ length l → Some 64 ≡ length_in [] (length l)
none-in l h = fits-in [] (length l) 64 (sym none-length) (omega (arith, none-length))

pub none_short-in : (l : List ℕ) → length l < 64 → None ≡ length_in [] (length l)
none_short-in l h = short-in [] (length l) (omega (arith, none-length))

pub no_mappings : (rs : List ℕ) → length rs ≡ 0 → mappings rs ≡ []
unfolding mappings mappings_from
no_mappings rs e = ap (λ (n : ℕ). mappings_from rs 0 (n / 12)) e
