use Rattle.recording.specs.Names.{ℕ, ◌≡◌, ◌+◌, ◌-◌, ◌++◌, ◌∷◌, [], ◌<◌, length}
use Rattle.recording.specs.Reading.{blocks_in, calls_at}
use Rattle.recording.proofs.Names.{sym, ◌∙◌, ap, subst, arith, length-append, calls_of}
use Rattle.recording.proofs.Joins.{put_none}
use Rattle.recording.proofs.Pieces.{cut_next, cut_over}
use Rattle.recording.proofs.Turns.{Filling, piece_fits, piece_turn}
use Rattle.recording.proofs.reader.fill.Goals as goal

pub loop-block-preserved : goal.loop-block-preserved
loop-block-preserved c =
    let r = c.args.recording.now in
    let l = c.loop-block in
    let i = length l.yielded in
    let f = calls_at r in
    let steps = c.in-Some.ensures.steps in
    let k = cut_next 512 r _ _ _ _ _ i l.invariant.cut steps.0 steps.1 in
    let e = c.calls_of-part.ensures ∙ ap calls_of k.piece in
    let h : i < blocks_in r = omega (arith, k.there) in
    let one : length (l.yielded ++ c.in-Some.block ∷ []) ≡ i + 1 = length-append l.yielded (c.in-Some.block ∷ []) in
    subst (Filling r _ _ c.args.out.now c.put_bytes.new.out (l.at + length c.calls_of-part.result.now)) (sym one)
    (record {
      cut = k.on;
      long = c.put_bytes.auto.out ∙ l.invariant.long;
      fits = omega (arith, piece_fits f (blocks_in r) i l.at l.out _ h l.invariant.fits e, c.put_bytes.auto.out);
      same = l.invariant.same ∙ piece_turn f (blocks_in r) i l.at l.out _ h l.invariant.fits e _ c.put_bytes.ensures;
    })

pub returns : goal.returns
returns c =
    let r = c.args.recording.now in
    let l = c.loop-block in
    let i = length l.yielded in
    sym (l.invariant.same ∙ put_none (calls_at r) (blocks_in r) i l.at l.out (omega (arith, cut_over 512 r _ _ i l.invariant.cut c.in-None.ensures.steps.1.0)))
