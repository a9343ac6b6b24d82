use Rattle.records.proofs.Names.{arith}
use Rattle.records.proofs.Runs.{full_mid}
use Rattle.records.proofs.bitmap.sixteen_full.Goals as goal

pub returns : goal.returns
returns c =
    full_mid c.args.c.now c.fill.new.self c.args.w _ (omega arith) (omega arith) (c.fill.ensures.after (λ y e. e))
