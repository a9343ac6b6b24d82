use Rattle.audit.specs.Names.{Table}
use Rattle.audit.proofs.Sizes.{takes_none, takes_large, takes_small, coarse_takes_none, fine_takes_tiny, by_table}
use Rattle.audit.proofs.groups.taken.Goals as goal

pub returns-in-1 : goal.returns-in-1
returns-in-1 c = by_table _ Table.Coarse _ _ c.in-Coarse.is (takes_large Table.Coarse _ c.in-1.is)

pub returns-in-2 : goal.returns-in-2
returns-in-2 c = by_table _ Table.Coarse _ _ c.in-Coarse.is (takes_small Table.Coarse _ c.in-2.is)

pub returns-in_default : goal.returns-in_default
returns-in_default c = by_table _ Table.Coarse _ _ c.in-Coarse.is (coarse_takes_none _ c.in_default.in_default-own.rest.0.1 c.in_default.in_default-own.rest.1)

pub returns-in-0 : goal.returns-in-0
returns-in-0 c = by_table _ Table.Fine _ _ c.in-Fine.is (takes_none Table.Fine _ c.in-0.is)

pub returns-in-1-2 : goal.returns-in-1-2
returns-in-1-2 c = by_table _ Table.Fine _ _ c.in-Fine.is (takes_large Table.Fine _ c.in-1-2.is)

pub returns-in-2-2 : goal.returns-in-2-2
returns-in-2-2 c = by_table _ Table.Fine _ _ c.in-Fine.is (takes_small Table.Fine _ c.in-2-2.is)

pub returns-in_default-2 : goal.returns-in_default-2
returns-in_default-2 c =
    by_table _ Table.Fine _ _ c.in-Fine.is
    (fine_takes_tiny _ c.in_default-2.in_default-2-own.rest.0.0.1 c.in_default-2.in_default-2-own.rest.0.1 c.in_default-2.in_default-2-own.rest.1)
