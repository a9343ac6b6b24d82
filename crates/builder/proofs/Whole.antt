-- The whole image, left in a memory. Assumes nothing.
use Rattle.builder.specs.Names.{◌≡◌, List, ◌++◌, ℕ, ◌+◌, ◌*◌, ◌/◌, ◌%◌, ◌≤◌, ◌<◌, length, drop, Mapping, megabytes, table_end, image_length}
use Rattle.builder.specs.Names.{image_word, spliced}
use Rattle.std.proofs.Common.{Some, None}
use Rattle.builder.specs.Image.{length_in}
use Rattle.builder.proofs.Names.{sym, ap, ◌∙◌, arith, lt-ltb, le-ltb, pick_yes, pick_no, image, written, end_4, end-first}
use Rattle.wire.proofs.Splices.{bytes-length}

-- the words of the image, from the front of a memory on, are the image
module _ (n : ℕ) (ms : List Mapping) (base : ℕ) (l : List ℕ) (room : image_length n ms ≤ length l) where
  places : (4 * n ≤ image_length n ms) × (image_length n ms % 4 ≡ 0)
  unfolding image_length
  places = (end-first n ms n, end_4 n ms n)

  pub front : spliced l 0 (image_word n ms base) (image_length n ms / 4) ≡ image n ms base ++ drop (image_length n ms) l
  unfolding spliced image
  front =
      let p = places in
      ap (λ (k : ℕ). image n ms base ++ drop k l) (let e : 0 + 4 * (image_length n ms / 4) ≡ image_length n ms = omega arith in e)

-- the image has its length
pub image_length-is : (n : ℕ) (ms : List Mapping) (base : ℕ) → length (image n ms base) ≡ image_length n ms
unfolding image image_length
image_length-is n ms base = bytes-length (image_word n ms base) (table_end n ms n / 4) ∙ (let e : 4 * (table_end n ms n / 4) ≡ table_end n ms n = omega (arith, end_4 n ms n) in e)

-- what is written, where the memory is too short and where it is not
pub written_short : (ms : List Mapping) (base : ℕ) (l : List ℕ) → length l < image_length megabytes ms → written ms base l ≡ l
unfolding written
written_short ms base l h = pick_yes _ _ _ (lt-ltb _ _ h)

pub written-image : (ms : List Mapping) (base : ℕ) (l : List ℕ) → image_length megabytes ms ≤ length l → written ms base l ≡ image megabytes ms base ++ drop (image_length megabytes ms) l
unfolding written
written-image ms base l h = pick_no _ _ _ (le-ltb _ _ h)

-- its length, in a memory that is too short for it and in one that is not
pub short-in : (ms : List Mapping) (room : ℕ) → room < image_length megabytes ms → None ≡ length_in ms room
short-in ms room h = sym (pick_yes _ _ _ (lt-ltb _ _ h))

pub fits-in : (ms : List Mapping) (room n : ℕ) → n ≡ image_length megabytes ms → image_length megabytes ms ≤ room → Some n ≡ length_in ms room
fits-in ms room n e h = ap Some e ∙ sym (pick_no _ _ _ (le-ltb _ _ h))
