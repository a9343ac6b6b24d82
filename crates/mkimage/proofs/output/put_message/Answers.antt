use Rattle.mkimage.proofs.Names.{arith}
use Rattle.mkimage.proofs.Texts.{count_of, decimal-length, message-is}
use Rattle.mkimage.proofs.output.put_message.Goals as goal

pub put_decimal-b-requires : goal.put_decimal-b-requires
put_decimal-b-requires c = omega (arith, count_of _ _ _ _ c.put-a.ensures, c.put-a.auto.out)

pub put-c-requires : goal.put-c-requires
put-c-requires c =
    omega (arith, count_of _ _ _ _ c.put_decimal-b.ensures, c.put_decimal-b.auto.out, count_of _ _ _ _ c.put-a.ensures, c.put-a.auto.out, decimal-length 20 c.args.number)

pub put_decimal-d-requires : goal.put_decimal-d-requires
put_decimal-d-requires c =
    omega (
      arith,
      count_of _ _ _ _ c.put-c.ensures,
      c.put-c.auto.out,
      count_of _ _ _ _ c.put_decimal-b.ensures,
      c.put_decimal-b.auto.out,
      count_of _ _ _ _
          c.put-a.ensures,
      c.put-a.auto.out,
      decimal-length 20 c.args.number,
    )

pub put-requires : goal.put-requires
put-requires c =
    omega (
      arith,
      count_of _ _ _ _ c.put_decimal-d.ensures,
      c.put_decimal-d.auto.out,
      count_of _ _ _ _ c.put-c.ensures,
      c.put-c.auto.out,
      count_of _ _ _ _
          c.put_decimal-b.ensures,
      c.put_decimal-b.auto.out,
      count_of _ _ _ _ c.put-a.ensures,
      c.put-a.auto.out,
      decimal-length 20 c.args.number,
      decimal-length 20 c.args.value,
    )

pub returns : goal.returns
returns c =
    message-is c.args.out.now _ _ _ _ _ c.args.number c.args.value _ _ _ _ _ c.put-a.ensures c.put_decimal-b.ensures c.put-c.ensures
    c.put_decimal-d.ensures c.put.ensures
