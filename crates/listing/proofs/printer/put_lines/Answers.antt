use Rattle.listing.specs.Names.{ℕ, ◌<◌, ◌≤◌}
use Rattle.listing.proofs.Names.{subst}
use Rattle.listing.proofs.Columns.{printing-first, printing-room, printing_turn, printing_last}
use Rattle.listing.proofs.printer.put_lines.Goals as goal

pub loop-i-init : goal.loop-i-init
loop-i-init c = printing-first _ _ c.requires

pub put_line-at-requires : goal.put_line-at-requires
put_line-at-requires c =
    printing-room _ _ _ _ _ c.loop-i.invariant (subst (λ (n : ℕ). c.loop-i.i < n) c.count-i-end.ensures c.loop-i-test.true)

pub loop-i-preserved : goal.loop-i-preserved
loop-i-preserved c =
    printing_turn _ _ _ _ _ c.loop-i.invariant _ _ _ (subst (λ (n : ℕ). c.loop-i.i < n) c.count-i-end.ensures c.loop-i-test.true) c.mapping_at.ensures c.put_line-at.auto.out
    c.put_line-at.ensures

pub returns : goal.returns
returns c =
    printing_last _ _ _ _ _ c.loop-i.invariant (subst (λ (n : ℕ). n ≤ c.loop-i.i) c.count-i-end.ensures c.loop-i-test.false)
