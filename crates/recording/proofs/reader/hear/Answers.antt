use Rattle.std.specs.Slice.Iter.{chunks_rest, chunks_size}
use Rattle.recording.specs.Names.{ℕ, ◌≡◌, ◌+◌, ◌-◌, ◌<◌, Progress}
use Rattle.recording.specs.Reading.{block_at, blocks_in}
use Rattle.recording.proofs.Names.{refl, sym, ◌∙◌, ap, subst, arith, heard_from, block_taken}
use Rattle.recording.proofs.Passed.{next_carried}
use Rattle.recording.proofs.Pieces.{Cut, Cutting, cut_next, cut_over}
use Rattle.recording.proofs.Hears.{heard_next, heard-bad, heard-none}
use Rattle.recording.proofs.reader.hear.Goals as goal

pub loop-block-preserved : goal.loop-block-preserved
loop-block-preserved c =
    let r = c.args.recording.now in
    let p = c.loop-block.p in
    let q = c.in-Ok.q in
    let inv = c.loop-block.invariant in
    let steps = c.in-Some.ensures.steps in
    let k = cut_next 512 r _ _ _ _ _ p.blocks inv.cut steps.0 steps.1 in
    let e = c.take_by.ensures ∙ ap (block_taken p) k.piece in
    let n : q.blocks ≡ p.blocks + 1 = ap (λ (x : Progress). x.blocks) (next_carried p (block_at r p.blocks) q (sym e ∙ c.in-Ok.is)) in
    record {
      cut = subst (Cutting 512 r _ _) (sym n) k.on;
      same = inv.same ∙ heard_next r p (blocks_in r) p.blocks refl _ q (omega (arith, k.there)) e c.in-Ok.is ∙ ap (λ (i : ℕ). heard_from r q (blocks_in r - i)) (sym n);
    }

pub returns-in_default : goal.returns-in_default
returns-in_default c =
    let r = c.args.recording.now in
    let p = c.loop-block.p in
    let inv = c.loop-block.invariant in
    let steps = c.in-Some.ensures.steps in
    let k = cut_next 512 r _ _ _ _ _ p.blocks inv.cut steps.0 steps.1 in
    sym (inv.same ∙ heard-bad r p (blocks_in r) p.blocks refl _ _ (omega (arith, k.there)) (c.take_by.ensures ∙ ap (block_taken p) k.piece) c.in_default.is)

pub returns : goal.returns
returns c =
    let r = c.args.recording.now in
    let p = c.loop-block.p in
    let inv = c.loop-block.invariant in
    sym (inv.same ∙ heard-none r p (blocks_in r) p.blocks (omega (arith, cut_over 512 r _ _ p.blocks inv.cut c.in-None.ensures.steps.1.0)))
