-- What a line's mapping is for: the words of its comment, as a part of the text.
use Rattle.std.specs.Prelude.{◌+◌, ◌-◌}
use Rattle.listing.specs.Names.{ℕ, zero, suc, List, eqb, ltb, length, get_or, take, drop, pick, ◌or◌, Class, Span}
use Rattle.listing.specs.Words.{blank, run_length}
use Rattle.listing.specs.Lines.{body}
use Rattle.listing.specs.Texts.{longest_text}

abbrev pub span : ℕ → ℕ → Span
span from to = record { from = from; to = to }

-- where the line behind k line feeds starts; one past the text's end where there are fewer
unfoldable pub start_of : ℕ → List ℕ → ℕ
start_of zero t = 0
start_of (suc k) t =
    pick (ltb (run_length Class.Inline t) (length t))
    (suc (run_length Class.Inline t) + start_of k (drop (suc (run_length Class.Inline t)) t))
    (suc (length t))

-- the line that starts there, without its end
abbrev pub line_at : List ℕ → ℕ → List ℕ
line_at t s = take (run_length Class.Inline (drop s t)) (drop s t)

-- where the last of n bytes that is no blank ends
unfoldable pub solid_to : List ℕ → ℕ → ℕ
solid_to l zero = 0
solid_to l (suc n) = pick (blank (get_or l n 0)) (solid_to l n) (suc n)

-- from a '#' at c on: the words behind it, without blanks on either side
abbrev pub words_from : List ℕ → ℕ → ℕ
words_from l c = suc c + run_length Class.Blank (drop (suc c) l)

unfoldable pub comment_of : List ℕ → Span
comment_of l =
    pick (eqb (run_length Class.Plain l) (length l)) (span 0 0)
    (pick (ltb (solid_to l (length l)) (words_from l (run_length Class.Plain l))) (span 0 0)
    (span (words_from l (run_length Class.Plain l)) (solid_to l (length l))))

-- a part of a line as a part of the text
abbrev pub shifted : ℕ → Span → Span
shifted s p = span (s + p.from) (s + p.to)

-- the comment's words of a line, counted from 1; an empty part where there are none
unfoldable pub purpose_of : List ℕ → ℕ → Span
purpose_of t k =
    pick (ltb longest_text (length t) or eqb k 0) (span 0 0)
    (pick (ltb (length t) (start_of (k - 1) t)) (span 0 0)
    (shifted (start_of (k - 1) t) (comment_of (body (line_at t (start_of (k - 1) t))))))
