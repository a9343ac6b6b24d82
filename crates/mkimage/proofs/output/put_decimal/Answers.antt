use Rattle.mkimage.specs.Names.{take}
use Rattle.mkimage.proofs.Names.{decimal, ◌∙◌, arith}
use Rattle.mkimage.proofs.Texts.{pasted-taken, digits_are, fewest_twenty}
use Rattle.mkimage.proofs.output.put_decimal.Goals as goal

pub put-requires : goal.put-requires
put-requires c =
    omega (arith, c.decimal-k.ensures.in_bounds, fewest_twenty _ _ c.decimal-k.ensures.len (omega arith))

pub returns : goal.returns
returns c =
    pasted-taken c.args.out.now c.args.at (take c.decimal-k.result c.decimal-k.new.out) (decimal c.args.n) _ _
    (c.decimal-k.ensures.digits ∙ digits_are 20 c.decimal-k.result c.args.n c.decimal-k.ensures.len (fewest_twenty _ _ c.decimal-k.ensures.len (omega arith))) c.put.ensures
