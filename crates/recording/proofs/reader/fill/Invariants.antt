use Rattle.std.specs.Slice.Iter.{chunks_rest, chunks_size}
use Rattle.recording.specs.Names.{length}
use Rattle.recording.proofs.Turns.{Filling}
use Rattle.recording.proofs.reader.fill.Given as goal

abbrev pub invariant-loop-block : goal.invariant-loop-block
invariant-loop-block l =
    Filling l.recording (chunks_rest l.block-iterator) (chunks_size l.block-iterator) l.initial.out l.out l.at (length l.yielded)
