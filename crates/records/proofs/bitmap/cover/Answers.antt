use Rattle.records.proofs.Regions.{cover_section, cover_large, cover_small, cover_tiny}
use Rattle.records.proofs.bitmap.cover.Goals as goal

pub returns-in-Section : goal.returns-in-Section
returns-in-Section c =
    let sixteen-full = c.sixteen_full in
    let args = c.args in
    let pre = c.requires in
    cover_section args.c.now args.m pre.1 _ c.in-Section.is sixteen-full.ensures

pub returns-in-Large : goal.returns-in-Large
returns-in-Large c =
    let args = c.args in
    let pre = c.requires in
    cover_large args.c.now args.m pre.1 pre.0 c.in-Large.is

pub returns-in-Small : goal.returns-in-Small
returns-in-Small c =
    let args = c.args in
    let pre = c.requires in
    cover_small args.c.now args.m pre.1 pre.0 c.in-Small.is

pub returns-in-Tiny : goal.returns-in-Tiny
returns-in-Tiny c =
    let args = c.args in
    let pre = c.requires in
    cover_tiny args.c.now args.m pre.1 pre.0 c.in-Tiny.is
