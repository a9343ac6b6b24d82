use Rattle.capi.proofs.Names.{rules}
use Rattle.capi.proofs.Recorded.{recorded_ran_lem}
use Rattle.capi.proofs.nx_record.Goals as goal

pub returns : goal.returns
returns c =
    let x = c.args in recorded_ran_lem x.calls.now x.out.now _ _ _ c.written_number.ensures c.write.ensures
