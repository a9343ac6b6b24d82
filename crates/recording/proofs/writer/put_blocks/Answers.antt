use Rattle.std.specs.Iterator.Adapters.{enumerate_count}
use Rattle.recording.specs.Names.{ℕ, List, ◌≡◌, ◌*◌, ◌<◌, length, pasted}
use Rattle.recording.specs.Blocks.{call_room}
use Rattle.recording.specs.Writing.{block_for, blocks_for}
use Rattle.recording.proofs.Names.{sym, ◌∙◌, ap, ap₂, subst, arith, block_of}
use Rattle.recording.proofs.Joins.{put_none}
use Rattle.recording.proofs.Pieces.{cut_next, cut_over}
use Rattle.recording.proofs.Turns.{Blocking, block_turn}
use Rattle.recording.proofs.writer.put_blocks.Goals as goal

pub loop-i-preserved : goal.loop-i-preserved
loop-i-preserved c =
    let l = c.args.calls.now in
    let a = c.loop-i in
    let i = enumerate_count a.i-iterator in
    let steps = c.in-Some.ensures.steps in
    let k = cut_next call_room l _ _ _ _ _ i a.invariant.cut steps.0.0 steps.0.1 in
    let put = c.put_block.ensures ∙ ap₂ (λ (j : ℕ) (s : List ℕ). pasted a.out (512 * j) (block_of j s)) steps.1 k.piece in
    subst (Blocking l _ _ c.args.out.now c.put_block.new.out) (sym steps.2)
    (record {
      cut = k.on;
      long = c.put_block.auto.out ∙ a.invariant.long;
      same = a.invariant.same ∙ block_turn l a.out _ (blocks_for l) i (omega (arith, k.there)) (omega (arith, c.requires.held, a.invariant.long)) put;
    })

pub returns : goal.returns
returns c =
    let l = c.args.calls.now in
    let a = c.loop-i in
    let i = enumerate_count a.i-iterator in
    sym (a.invariant.same ∙ put_none (block_for l) (blocks_for l) i (512 * i) a.out (omega (arith, cut_over call_room l _ _ i a.invariant.cut c.in-None.ensures.steps.0.1.0)))
