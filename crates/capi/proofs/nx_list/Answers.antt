use Rattle.capi.proofs.Names.{rules}
use Rattle.capi.proofs.Counts.{listed-ran}
use Rattle.capi.proofs.nx_list.Goals as goal

pub returns : goal.returns
returns c =
    let x = c.args in listed-ran x.memory.now x.base x.out.now _ _ _ c.inventory_number.ensures c.list.ensures
