use Rattle.listing.specs.Names.{◌*◌, ◌/◌, length}
use Rattle.listing.proofs.Names.{print_text, sym, ◌∙◌, pick_yes, pick_no, lt-ltb, arith}
use Rattle.listing.proofs.Columns.{mappings-count, print_on}
use Rattle.listing.proofs.print.Goals as goal

pub returns-then-not-formed : goal.returns-then-not-formed
unfolding print_text
returns-then-not-formed c = sym (pick_no _ _ _ (sym c.formed.ensures ∙ c.if-not-formed.true))

pub returns-then-out-records : goal.returns-then-out-records
unfolding print_text
returns-then-out-records c =
    sym (pick_yes _ _ _ (sym c.formed.ensures ∙ c.if-not-formed.false)
    ∙ pick_yes _ _ _ (lt-ltb (length c.args.out.now) (27 * (length c.args.records.now / 12)) (omega arith)))

pub put_lines-requires : goal.put_lines-requires
put_lines-requires c = omega (arith, mappings-count c.args.records.now)

pub returns : goal.returns
returns c =
    print_on c.args.records.now c.args.out.now _ _ (sym c.formed.ensures ∙ c.if-not-formed.false) (omega arith) c.put_lines.ensures
