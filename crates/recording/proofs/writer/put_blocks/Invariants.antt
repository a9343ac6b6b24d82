use Rattle.std.specs.Slice.Iter.{chunks_rest, chunks_size}
use Rattle.std.specs.Iterator.Adapters.{enumerate_source, enumerate_count}
use Rattle.recording.specs.Names.{length}
use Rattle.recording.proofs.Turns.{Blocking}
use Rattle.recording.proofs.writer.put_blocks.Given as goal

abbrev pub invariant-loop-i : goal.invariant-loop-i
invariant-loop-i l =
    Blocking l.calls (chunks_rest (enumerate_source l.i-iterator)) (chunks_size (enumerate_source l.i-iterator)) l.initial.out l.out (enumerate_count l.i-iterator)
