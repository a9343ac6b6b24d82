use Rattle.records.specs.Names.{◌/◌}
use Rattle.records.proofs.Regions.{free_section, free_large, free_small, free_tiny}
use Rattle.records.proofs.bitmap.is_free.Goals as goal

pub returns-in-Section : goal.returns-in-Section
returns-in-Section c =
    let args = c.args in
    let pre = c.requires in
    free_section args.c.now args.m pre.1 c.sixteen_free.result c.in-Section.is c.sixteen_free.ensures

pub returns-in-Large : goal.returns-in-Large
returns-in-Large c =
    let args = c.args in
    let pre = c.requires in
    free_large args.c.now args.m pre.1 c.in-Large.is (c.type_inv.c (args.m.at.0 / 65536)).fits

pub returns-in-Small : goal.returns-in-Small
returns-in-Small c =
    let args = c.args in
    let pre = c.requires in
    free_small args.c.now args.m pre.1 c.in-Small.is

pub returns-in-Tiny : goal.returns-in-Tiny
returns-in-Tiny c =
    let args = c.args in
    let pre = c.requires in
    free_tiny args.c.now args.m pre.1 c.in-Tiny.is
