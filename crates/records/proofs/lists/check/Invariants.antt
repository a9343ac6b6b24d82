use Rattle.records.specs.Names.{megabytes, ◌≡◌, ◌*◌, ◌≤◌, length, drop}
use Rattle.records.proofs.Names.{Blank}
use Rattle.records.proofs.Refusals.{Left}
use Rattle.records.proofs.Taken.{Marks}
use Rattle.records.proofs.Noted.{Notes}
use Rattle.records.proofs.lists.check.Given as goal

abbrev pub invariant-loop-i : goal.invariant-loop-i
invariant-loop-i l = record {
  size : l.i-iterator.iter.size ≡ 12;
  rest : l.i-iterator.iter.rest.now ≡ drop (12 * l.i-iterator.count) l.records;
  whole : 12 * l.i-iterator.count ≤ length l.records;
  left : Left megabytes l.records l.i-iterator.count;
  words : length l.taken ≡ 256;
  marks : Marks l.records l.i-iterator.count l.taken;
  notes : Blank l.initial.seen.0 → Notes l.records l.i-iterator.count l.seen.0;
}
