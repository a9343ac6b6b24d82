-- The sheet's proved lines hold. Assumes nothing.
use Rattle.sheet.specs.Names.{◌≡◌, true, List, [], ◌∷◌, ℕ, ◌/◌, replicate, ◌and◌, word_of, answer_of, build_of, first_of, request_of, write_of}
use Rattle.sheet.specs.Names.{records_a, base_a, room_a}
use Rattle.sheet.proofs.Names.{ap, ◌∙◌}
use mathlib.Core.Path.{refl, ap₂}
use mathlib.Core.Bool.{false≢true}
use lib.Ieee.{of_fields, of_bits, le, lt, eq}
use borrow.Author.Tests.{eqb-true}
use Rattle.page.specs.Pick.{pick, ◌or◌}
use Rattle.page.proofs.Picks.{and_left, and_right}
use Rattle.page.specs.Low.{upper, joined}
use Rattle.page.specs.Words.{kind_of, word_matches, made_cam, made_ram, megabytes}
use Rattle.memory.specs.Memory.{memory_ok, apart, memories_ok, lies_in, place_within, place_in}
use Rattle.walk.specs.Walk.{first_at, coarse_at, fine_at, read_in, walk_from}
use Rattle.records.specs.Mappings.{mappings, mappings_from, mapping_of, overlap}
use Rattle.records.specs.Meanings.{holder}
use Rattle.records.specs.Mappings
use Rattle.records.specs.Checks.{multiple, proper, well_formed}
use Rattle.records.specs.Refusals.{bad, clashes, overlapping, checked_from, checked}
use Rattle.tables.specs.Tables.{table_of, table_end, table_start, image_length}
use Rattle.records.specs.Noted.{has_kind}
use Rattle.tables.specs.Words.{first_word, second_word, in_tables, image_word}
use Rattle.builder.specs.Image.{image}
use Rattle.builder.specs.Build.{leaves, room_ok}
use Rattle.prices.specs.Prices.{figure_ok, every}
use Rattle.bill.specs.Bill.{money_ok}
use Rattle.bank.specs.Slots.{bank_ok}
use Rattle.walk.specs.Descriptors.{second_of}
use Rattle.lanes.specs.Lanes.{looked_from, all_from}
use Rattle.bank.specs.Changes.{next_slot, next_victim, filled}
use Rattle.registers.specs.Fields.{entry_ok, registers_ok}
use Rattle.registers.specs.Table.{no_register, listed, control_command, lock_command, command_of}
use Rattle.decision.specs.Decisions.{by_access, by_found, decided}
use Rattle.unit.specs.Refusals.{refuses}
use Rattle.unit.specs.Device.{in_range}
use Rattle.unit.specs.Calls.{lacks, is_malformed, is_untimely, write_lacks}
use Rattle.sheet.specs.Bench.{built}
use Rattle.sheet.specs.Sheet.{Line, sheet, same_numbers, answered_in, passes_in, all_pass_in, Each}
use Rattle.sheet.specs.Mixed.{records_mixed, mixed}
use Rattle.sheet.proofs.Runs.{run_of, run_is}

-- what is built of a list, word after word
abbrev words : List ℕ → ℕ → ℕ
words rs k = image_word megabytes (mappings rs) base_a k

abbrev written : List ℕ → List ℕ
written rs = leaves (answer_of rs base_a room_a) (run_of (words rs) 0 (image_length megabytes (mappings rs) / 4)) (replicate room_a 0)

built-is : (rs : List ℕ) → built rs ≡ written rs
unfolding built build_of image
built-is rs = ap (λ (l : List ℕ). leaves (answer_of rs base_a room_a) l (replicate room_a 0)) (run_is (words rs) (image_length megabytes (mappings rs) / 4))

-- all lines, computed together over the whole images
written_passes : (all_pass_in (written records_a) sheet and all_pass_in (written records_mixed) mixed) ≡ true
unfolding run_of pick ◌and◌ ◌or◌ upper joined kind_of word_matches made_cam made_ram memory_ok apart memories_ok lies_in place_within place_in word_of first_of
    second_of first_at coarse_at fine_at read_in walk_from mappings mappings_from mapping_of Mappings.holds holder overlap multiple proper well_formed bad
    clashes overlapping checked_from checked has_kind table_of table_end table_start image_length first_word second_word in_tables image_word room_ok
    answer_of figure_ok every money_ok looked_from all_from bank_ok next_slot next_victim filled entry_ok registers_ok no_register listed control_command
    lock_command command_of by_access by_found decided refuses in_range lacks request_of is_malformed is_untimely write_lacks write_of answered_in sheet mixed passes_in
    of_fields of_bits le lt eq
written_passes = refl

pub sheet-holds : all_pass_in (built records_a) sheet ≡ true
sheet-holds = ap (λ (l : List ℕ). all_pass_in l sheet) (built-is records_a) ∙ and_left _ _ written_passes

pub mixed-holds : all_pass_in (built records_mixed) mixed ≡ true
mixed-holds = ap (λ (l : List ℕ). all_pass_in l mixed) (built-is records_mixed) ∙ and_right _ _ written_passes

-- so each line is an equation
same_is : (xs ys : List ℕ) → same_numbers xs ys ≡ true → xs ≡ ys
same_is [] [] h = refl
same_is [] (y ∷ ys) h = absurd (false≢true h)
same_is (x ∷ xs) [] h = absurd (false≢true h)
same_is (x ∷ xs) (y ∷ ys) h = ap₂ ◌∷◌ (eqb-true x y (and_left _ _ h)) (same_is xs ys (and_right _ _ h))

each : (bytes : List ℕ) (ls : List Line) → all_pass_in bytes ls ≡ true → Each bytes ls
unfolding passes_in
each bytes [] h = tt
each bytes (l ∷ ls) h = (same_is (answered_in bytes l.0) l.1 (and_left _ _ h), each bytes ls (and_right _ _ h))

pub each_line : Each (built records_a) sheet
each_line = each (built records_a) sheet sheet-holds

pub each_mixed : Each (built records_mixed) mixed
each_mixed = each (built records_mixed) mixed mixed-holds
