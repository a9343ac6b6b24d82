use Rattle.std.proofs.Common.{inl, inr}
use Rattle.wire.specs.Names.{drop, length, ◌<◌, ◌+◌, ◌-◌}
use Rattle.wire.proofs.Names.{word_of, sym, ◌∙◌, ap, arith, length-drop}
use Rattle.wire.proofs.Reading.{word_first, word_none}
use Rattle.std.proofs.lemmas.List.{take_all}
use Rattle.wire.proofs.word_at.Goals as goal

pub returns-in-Some : goal.returns-in-Some
returns-in-Some c =
    let x = c.args in
    c.word_of.ensures
    ∙ ap word_of (c.in-Some.ensures.lookup.0.2 ∙ take_all (length x.s.now - x.at) (drop x.at x.s.now) (omega (arith, length-drop x.at x.s.now)))
    ∙ word_first (drop x.at x.s.now)

pub returns-in-None : goal.returns-in-None
returns-in-None c =
    let x = c.args in
    let past : length x.s.now < x.at + 4 =
    elim c.in-None.ensures.lookup.0 [ inl h ↦ omega (arith, h) | inr h ↦ absurd (omega (arith, h)) ] in
    sym (word_none x.s.now x.at past)
