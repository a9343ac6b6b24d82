use Rattle.capi.proofs.Names.{rules}
use Rattle.capi.proofs.Recorded.{read-ran}
use Rattle.capi.proofs.nx_recorded.Goals as goal

pub returns : goal.returns
returns c =
    let x = c.args in read-ran x.recording.now x.out.now _ _ _ c.written_number.ensures c.read.ensures
