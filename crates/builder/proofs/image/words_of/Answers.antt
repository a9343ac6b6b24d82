use Rattle.walk.specs.declared.Table.{Table}
use Rattle.builder.proofs.Names.{refl, Kind}
use Rattle.builder.proofs.Runs.{counted}
use Rattle.builder.proofs.image.words_of.Goals as goal

pub returns-in-Section : goal.returns-in-Section
returns-in-Section c = counted c.args.table Table.Fine c.args.m Kind.Section 1024 c.in-Fine.is c.in-Section.is refl

pub returns-in-Large : goal.returns-in-Large
returns-in-Large c = counted c.args.table Table.Fine c.args.m Kind.Large 64 c.in-Fine.is c.in-Large.is refl

pub returns-in-Small : goal.returns-in-Small
returns-in-Small c = counted c.args.table Table.Fine c.args.m Kind.Small 4 c.in-Fine.is c.in-Small.is refl

pub returns-in-Tiny : goal.returns-in-Tiny
returns-in-Tiny c = counted c.args.table Table.Fine c.args.m Kind.Tiny 1 c.in-Fine.is c.in-Tiny.is refl

pub returns-in-Section-kind : goal.returns-in-Section-kind
returns-in-Section-kind c = counted c.args.table Table.Coarse c.args.m Kind.Section 256 c.in-Coarse.is c.in-Section-kind.is refl

pub returns-in-Large-kind : goal.returns-in-Large-kind
returns-in-Large-kind c = counted c.args.table Table.Coarse c.args.m Kind.Large 16 c.in-Coarse.is c.in-Large-kind.is refl

pub returns-in-Small-kind : goal.returns-in-Small-kind
returns-in-Small-kind c = counted c.args.table Table.Coarse c.args.m Kind.Small 1 c.in-Coarse.is c.in-Small-kind.is refl

pub returns-in-Tiny-kind : goal.returns-in-Tiny-kind
returns-in-Tiny-kind c = counted c.args.table Table.Coarse c.args.m Kind.Tiny 0 c.in-Coarse.is c.in-Tiny-kind.is refl
