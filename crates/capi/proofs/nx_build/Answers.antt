use Rattle.capi.proofs.Names.{rules}
use Rattle.capi.proofs.Indices.{built-ran}
use Rattle.capi.proofs.nx_build.Goals as goal

pub returns : goal.returns
returns c =
    let x = c.args in
    built-ran x.records.now x.base x.memory.now _ _ _ c.built_number.ensures c.build.ensures
