use Rattle.std.specs.Slice.Iter.{chunks_rest, chunks_size}
use Rattle.recording.proofs.Hears.{Hearing}
use Rattle.recording.proofs.reader.hear.Given as goal

abbrev pub invariant-loop-block : goal.invariant-loop-block
invariant-loop-block l = Hearing l.recording (chunks_rest l.block-iterator) (chunks_size l.block-iterator) l.p
