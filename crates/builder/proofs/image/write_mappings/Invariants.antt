use Rattle.builder.specs.Names.{◌≡◌, List, [], ℕ, ◌/◌, ◌≤◌, length, drop, megabytes, mappings, image_length, spliced}
use Rattle.builder.proofs.Names.{part_word, Firsts}
use Rattle.builder.proofs.image.write_mappings.Given as goal

abbrev pub invariant-loop-j : goal.invariant-loop-j
invariant-loop-j l =
    Firsts (mappings l.records) l.firsts → image_length megabytes (mappings l.records) ≤ length l.initial.out → (base : ℕ) (a : List ℕ) → length a ≡ length l.initial.out
    → l.initial.out ≡ spliced a 0 (part_word megabytes (mappings l.records) [] base) (image_length megabytes (mappings l.records) / 4)
    → l.out ≡ spliced a 0 (part_word megabytes (mappings l.records) (drop l.j (mappings l.records)) base) (image_length megabytes (mappings l.records) / 4)
