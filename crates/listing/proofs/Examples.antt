-- The example, computed. Assumes nothing.
use Rattle.listing.specs.Names.{◌≡◌, List, ◌++◌, ℕ, ◌*◌, ◌≤◌, length, pick, ◌and◌, ◌or◌, multiple, record_size, most}
use Rattle.listing.proofs.Names.{refl, ◌∙◌, le-ltb, lit≤, pick_no, or_no, within, digit, read_on, hex_digits, prefixed, hex_number, blank, belongs}
use Rattle.listing.proofs.Names.{run_length, word, rest, same_bytes, kind_named, access_named, address_in, line_ended, from_access, from_physical, from_virtual}
use Rattle.listing.proofs.Names.{from_kind, body_length, parsed, start_of, solid_to, comment_of, purpose_of, longest_text, lines_of, read_lines, read_text}
use Rattle.listing.specs.Example.{heading, first_line, last_line, uneven_line, ReadsTwo, RefusesThird, PurposeOfSecond}

-- a text that is not too long, in memories with room
in_room : (t rs ls : List ℕ) → record_size * most ≤ length rs → most ≤ length ls → length t ≤ longest_text → read_text t rs ls ≡ read_lines 1 0 (lines_of t) rs ls
unfolding read_text
in_room t rs ls h g s = pick_no _ _ _ (or_no _ _ (le-ltb (length rs) (record_size * most) h) ∙ le-ltb (length ls) most g) ∙ pick_no _ _ _ (le-ltb longest_text (length t) s)

pub reads_two : ReadsTwo
unfolding pick ◌and◌ ◌or◌ multiple within digit read_on hex_digits prefixed hex_number blank
    belongs run_length word rest same_bytes kind_named access_named address_in line_ended from_access from_physical from_virtual from_kind body_length parsed lines_of read_lines
reads_two rs ls h g = in_room (heading ++ (first_line ++ last_line)) rs ls h g (lit≤ tt)

pub refuses-third : RefusesThird
unfolding pick ◌and◌ ◌or◌ multiple within digit read_on hex_digits prefixed hex_number blank belongs run_length word rest same_bytes kind_named access_named
    address_in line_ended from_access from_physical from_virtual from_kind body_length parsed lines_of read_lines
refuses-third rs ls h g = in_room (heading ++ (first_line ++ uneven_line)) rs ls h g (lit≤ tt)

pub purpose_of-second : PurposeOfSecond
unfolding pick ◌or◌ blank belongs run_length body_length start_of solid_to comment_of purpose_of
purpose_of-second = refl
