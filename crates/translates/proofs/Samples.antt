-- Lists that are accepted, by computation: list A of the bench sheet, and the empty list. Assumes nothing.
use Rattle.std.proofs.Common.{Ok}
use Rattle.translates.specs.Names.{◌≡◌, [], ℕ, megabytes, mappings, holder, image_length, image, answer_of}
use Rattle.translates.proofs.Names.{refl, pick, ◌or◌, word_of, mapping_of, holds, proper, table_of, table_end, table_start, first_word, in_tables}
use Rattle.translates.proofs.Names.{image_word, bytes_by}
use lib.ListN.{replicate}
use Rattle.page.specs.Pick.{◌and◌}
use Rattle.page.specs.Words.{kind_of}
use Rattle.memory.specs.Memory.{memory_ok}
use Rattle.records.specs.Mappings.{mappings_from, overlap}
use Rattle.records.specs.Checks.{multiple, well_formed}
use Rattle.records.specs.Refusals.{bad, clashes, overlapping, checked_from, checked}
use Rattle.records.specs.Noted.{has_kind}
use Rattle.builder.specs.Build.{room_ok}
use Rattle.translates.specs.ListA.{records_a, base_a}

pub accepts_a : answer_of records_a base_a 8192 ≡ Ok 8192
unfolding answer_of room_ok memory_ok checked checked_from bad well_formed proper multiple mapping_of word_of kind_of pick ◌and◌ ◌or◌ clashes overlapping
    overlap holds mappings_from mappings image_length table_end table_of has_kind
accepts_a = refl

-- the empty list builds 64 zero bytes
pub accepts_empty : answer_of [] base_a 64 ≡ Ok 64
unfolding answer_of room_ok memory_ok checked checked_from pick ◌and◌ mappings mappings_from image_length table_end table_of has_kind ◌or◌
accepts_empty = refl

pub image-empty : (base : ℕ) → image megabytes (mappings []) base ≡ replicate 64 0
unfolding image bytes_by image_word first_word in_tables holder image_length table_start table_end table_of has_kind pick ◌or◌ mappings mappings_from
image-empty base = refl
