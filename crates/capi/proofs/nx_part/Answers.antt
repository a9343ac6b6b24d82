use Rattle.capi.specs.Names.{length, Option, Parting, ran, words_put}
use Rattle.capi.proofs.Names.{rules, ap, sym, ◌∙◌, comparison_said, part_ran}
use Rattle.page.proofs.Picks.{pick_yes, pick_no}
use Rattle.capi.proofs.nx_part.Goals as goal

pub returns-then-not-room : goal.returns-then-not-room
unfolding part_ran
returns-then-not-room c = sym (pick_no _ _ _ (sym c.room.ensures ∙ c.if-not-room.true))

pub returns : goal.returns
unfolding part_ran
returns c =
    let x = c.args in
    ap (ran 24)
    (c.put.ensures
    ∙ ap (words_put x.out.now 0)
    (c.comparison_words-words.ensures ∙ ap (λ (y : Option Parting). comparison_said y (length x.new.now)) c.compare.ensures))
    ∙ sym (pick_yes _ _ _ (sym c.room.ensures ∙ c.if-not-room.false))
