-- The image of an accepted list translates as the list (01, demand 3). Assumes nothing.
use Rattle.std.proofs.Common.{Result, Ok}
use Rattle.builder.specs.declared.BuildError.{BuildError}
use Rattle.translates.specs.Names.{◌≡◌, true, List, ℕ, ◌+◌, ◌-◌, ◌≤◌, ◌<◌, length, take, drop, megabytes, limit, VirtualAddress, Lent, lent_ok}
use Rattle.translates.specs.Names.{Mapping, mappings, holder, image_length, image, answer_of, build_of, Bytes}
use Rattle.translates.proofs.Names.{refl, sym, ap, ap₂, ◌∙◌, subst, Bool, false, ◌*◌, ◌/◌, ◌%◌, ◌^◌, arith, le_refl, ◌or◌, place_in}
use Rattle.translates.proofs.Names.{Walked, first_of, read_in, walk_from, mapping_of, proper, All, Disjoint, table_of, table_start, Gives, ReadsInside, Has, Standing}
use lib.Dec.{eqb}
use borrow.Author.Tests.{eqb-true}
use lib.Seq.{take-append_seam}
use Rattle.page.proofs.Picks.{and_right, or_no}
use Rattle.walk.specs.Repeated.{AllRepeated}
use Rattle.walk.specs.Walk.{base_bits}
use Rattle.wire.proofs.Reading.{bytes_drop, bytes_take, word_lt}
use Rattle.walk.proofs.Indices.{aligned, first_at_legal}
use Rattle.walk.proofs.Repeats.{repeated_uniform}
use Rattle.records.specs.Mappings.{record_at}
use Rattle.records.proofs.Alls.{all_map}
use Rattle.records.proofs.Accepted.{accepted-proper, accepted_disjoint, all-records}
use Rattle.builder.specs.Build.{leaves}
use Rattle.builder.proofs.Answers.{room_unit, room-memory, accepted}
use Rattle.translates.specs.Statements.{Translates, ImageTranslates, LeavesImage}
use Rattle.walk.specs.Uniform.{look_in}
use Rattle.translates.proofs.Written.{found_for}
use Rattle.translates.proofs.Over.{Stands, Narrow, walked, reads_for, over}
use Rattle.translates.proofs.Faithful.{found-gives, reads_inside}
use Rattle.translates.proofs.Repeats.{image_repeated}
use Rattle.translates.proofs.Memories.{Phys, stands}

-- a proper mapping's access is 2 or 3
narrow_of : (n : ℕ) (m : Mapping) → proper n m ≡ true → Narrow m
unfolding proper
narrow_of n m e = either (eqb m.access 2) refl (and_right _ _ (and_right _ _ (and_right _ _ e)))
  where
    either : (b : Bool) → eqb m.access 2 ≡ b → (b or eqb m.access 3) ≡ true → m.access < 4
    either true t f = omega (arith, eqb-true m.access 2 t)
    either false t f = omega (arith, eqb-true m.access 3 (sym (or_no false (eqb m.access 3) refl) ∙ f))

phys_of : (rs : List ℕ) → Bytes rs → (k : ℕ) → Phys (mapping_of (record_at rs k))
unfolding mapping_of
phys_of rs h k =
    word_lt (take 4 (drop 4 (record_at rs k)))
    (bytes_take 4 (drop 4 (record_at rs k)) (bytes_drop 4 (record_at rs k) (bytes_take 12 (drop (12 * k) rs) (bytes_drop (12 * k) rs h))))

-- a list without bad or overlapping records, its image at a base that is a multiple of 4,096 and ends by 2^32, in
-- memories that are not refused
module _ (ms : List Mapping) (narrow : All Narrow ms) (apart : Disjoint ms) (phys : All Phys ms) (base : ℕ) (unit : base % 4096 ≡ 0)
    (room : base + image_length megabytes ms ≤ 2 ^ 32) (m : Lent) (ok : lent_ok m ≡ true) (standing : Standing m base (image megabytes ms base)) where
  words : Stands (read_in m) (place_in m) megabytes ms base
  words = stands megabytes ms phys base room m ok standing

  look_is : (va : VirtualAddress) → va.0 < limit
      → look_in m base va ≡ walked (found_for (holder ms va)) (reads_for (place_in m) base (table_start megabytes ms (va.0 / 2 ^ 20)) va (table_of ms (va.0 / 2 ^ 20)))
  look_is va low =
      ap (walk_from (read_in m) first_of va.0) (first_at_legal base va.0 (omega arith) low)
      ∙ over megabytes ms base (read_in m) (place_in m) words narrow apart unit va (omega arith)

  pub translates : Translates m base ms
  translates =
      record {
        gives = λ va low. subst (λ (w : Walked). Gives (holder ms va) va w.found) (sym (look_is va low)) (found-gives va (holder ms va));
        uniform =
            repeated_uniform (read_in m) first_of base_bits megabytes base limit (omega arith)
            (subst (AllRepeated (read_in m) first_of megabytes) (sym (aligned base (omega arith))) (image_repeated megabytes ms base (read_in m) (place_in m) words apart unit));
        inside = λ va low.
            subst (λ (w : Walked). ReadsInside base (image_length megabytes ms) w.reads) (sym (look_is va low))
            (reads_inside megabytes ms base (place_in m) va (omega arith));
      }

-- what is read of an accepted list's image: its words, of a list without overlaps, at a base that is a multiple of
-- 4,096
pub record ImageRead (rs : List ℕ) (base : ℕ) (m : Lent) : Type 0 where
  pub words : Stands (read_in m) (place_in m) megabytes (mappings rs) base
  pub apart : Disjoint (mappings rs)
  pub unit : base % 4096 ≡ 0

pub image-read : (rs : List ℕ) (base room len : ℕ) (m : Lent) → Bytes rs → answer_of rs base room ≡ Ok len → lent_ok m ≡ true
    → Standing m base (image megabytes (mappings rs) base) → ImageRead rs base m
image-read rs base room len m bytes e ok standing =
    let a = accepted rs base room len e in
    record {
      words = stands megabytes (mappings rs) (all-records Phys rs (λ k _. phys_of rs bytes k)) base (omega (arith, a.fits, room-memory base room a.memory)) m ok standing;
      apart = accepted_disjoint megabytes rs a.records;
      unit = room_unit base room a.memory;
    }

pub image_translates : ImageTranslates
image_translates rs base room len m bytes e ok standing =
    let a = accepted rs base room len e in
    translates (mappings rs) (all_map (mappings rs) (narrow_of megabytes) (accepted-proper megabytes rs a.records))
    (accepted_disjoint megabytes rs a.records) (all-records Phys rs (λ k _. phys_of rs bytes k)) base (room_unit base room a.memory)
    (omega (arith, a.fits, room-memory base room a.memory)) m ok standing

-- a build leaves the image of an accepted list
pub leaves-image : LeavesImage
unfolding build_of
leaves-image rs base len before e = ap (λ (b : Result ℕ BuildError). leaves b (image megabytes (mappings rs) base) before) e

-- so the memory that was built in has it, lent at the base
pub built-has : (rs : List ℕ) (base len : ℕ) (before : List ℕ) → answer_of rs base (length before) ≡ Ok len
    → Has (build_of rs base before).memory base base (image megabytes (mappings rs) base)
built-has rs base len before e =
    let img : List ℕ = image megabytes (mappings rs) base in (
      le_refl base,
      ap₂ (λ (l : List ℕ) (k : ℕ). take (length img) (drop k l)) (leaves-image rs base len before e) (let z : base - base ≡ 0 = omega arith in z)
          ∙ take-append_seam img (drop len before),
    )
