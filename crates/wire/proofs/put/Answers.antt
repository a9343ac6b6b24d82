use Rattle.wire.specs.Names.{length, ◌+◌, ◌*◌}
use Rattle.wire.proofs.Names.{leb-true, words_put, sym, ◌∙◌, pick_yes, arith}
use Rattle.wire.proofs.Placing.{words_turn, words-first, words-end}
use Rattle.wire.proofs.put.Goals as goal

pub loop-i-init : goal.loop-i-init
loop-i-init c = words-first _ _ _

pub loop-i-preserved : goal.loop-i-preserved
loop-i-preserved c =
    let x = c.args in
    let fits = leb-true (x.at + 4 * length x.words.now) (length x.out.now) (sym c.room.ensures ∙ c.if-room.true) in
    c.loop-i.invariant
    ∙ words_turn x.words.now c.loop-i.out c.put_word.new.out x.at c.loop-i.i c.loop-i-test.true (omega (arith, fits, c.loop-i.auto.out)) c.put_word.ensures

pub returns-after-loop-i : goal.returns-after-loop-i
unfolding words_put
returns-after-loop-i c =
    sym (c.loop-i.invariant ∙ words-end _ _ _ _ c.loop-i-test.false) ∙ sym (pick_yes _ _ _ (sym c.room.ensures ∙ c.if-room.true))
