use Rattle.listing.specs.Names.{mappings}
use Rattle.listing.proofs.Columns.{Turned}
use Rattle.listing.proofs.printer.put_lines.Given as goal

abbrev pub invariant-loop-i : goal.invariant-loop-i
invariant-loop-i l = Turned (mappings l.records) l.initial.out l.out l.at l.i
