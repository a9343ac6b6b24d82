use Rattle.listing.proofs.Columns.{line_made}
use Rattle.listing.proofs.printer.put_line.Goals as goal

pub returns : goal.returns
returns c =
    line_made c.args.out.now _ _ _ _ _ _ _ _ c.args.m c.requires c.put_kind.ensures c.hex_column-v.ensures c.put.ensures c.hex_column.ensures
    c.put-2.ensures c.put_access.ensures
