use Rattle.wire.specs.Names.{length, ◌+◌, ◌*◌, ℕ, ◌≡◌}
use Rattle.wire.proofs.Names.{leb-true, run_put, spliced, refl, sym, ◌∙◌, ap, pick_yes, arith}
use Rattle.wire.proofs.Splices.{spliced-none, one_more}
use Rattle.wire.proofs.put_run.Goals as goal

pub loop-i-init : goal.loop-i-init
loop-i-init c = sym (spliced-none _ _ _)

pub loop-i-preserved : goal.loop-i-preserved
loop-i-preserved c =
    let x = c.args in
    let fits = leb-true (x.at + 4 * x.n) (length x.out.now) (sym c.room.ensures ∙ c.if-room.true) in
    one_more x.out.now c.loop-i.out c.put_word.new.out x.at c.loop-i.i _ (λ (_ : ℕ). x.w) (omega (arith, fits)) refl c.loop-i.invariant c.put_word.ensures

pub returns-after-loop-i : goal.returns-after-loop-i
unfolding run_put
returns-after-loop-i c =
    let x = c.args in
    c.loop-i.invariant
    ∙ ap (spliced x.out.now x.at (λ (_ : ℕ). x.w)) (let e : c.loop-i.i ≡ x.n = omega arith in e)
    ∙ sym (pick_yes _ _ _ (sym c.room.ensures ∙ c.if-room.true))
