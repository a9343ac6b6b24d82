use Rattle.std.proofs.Common.{Some, None}
use Rattle.walk.specs.declared.Table.{Table}
use Rattle.builder.specs.Names.{◌/◌, ◌^◌, megabytes, mappings, table_of, table_start}
use Rattle.builder.proofs.Names.{refl, arith}
use Rattle.builder.proofs.Levels.{start_even, names_fine, names_coarse, names_none, fine-room, coarse-room}
use Rattle.builder.proofs.Parts.{mapping_past, mapping_section, mapping-page}
use Rattle.builder.proofs.image.write_mapping.Goals as goal

pub returns-then-mb-ge-MEGABYTES : goal.returns-then-mb-ge-MEGABYTES
returns-then-mb-ge-MEGABYTES c known room =
    let m = c.mapping_at-m in
    mapping_past (mappings c.args.records.now) c.args.j m.result m.ensures c.requires.1 c.args.out.now room c.if-mb-ge-MEGABYTES.true

pub write_page-requires : goal.write_page-requires
write_page-requires c =
    fine-room _ c.args.firsts.now c.requires.0 c.mapping_at-m.result c.if-mb-ge-MEGABYTES.false _ refl c.in-3.is

pub returns-in-3 : goal.returns-in-3
returns-in-3 c known room =
    let ms = mappings c.args.records.now in
    let m = c.mapping_at-m in
    let lt = c.if-mb-ge-MEGABYTES.false in
    let mb = m.result.at.0 / 2 ^ 20 in
    let n = names_fine (table_of ms mb) (table_start megabytes ms mb) _ (start_even ms mb) (known mb lt) c.in-3.is in
    mapping-page ms c.args.j m.result m.ensures c.requires.1 c.args.out.now room mb lt refl (Some Table.Fine) n.0 _ c.write_page.new.out n.1 (λ z. omega arith)
    c.write_page.ensures

pub write_page-requires-in-1 : goal.write_page-requires-in-1
write_page-requires-in-1 c =
    coarse-room _ c.args.firsts.now c.requires.0 c.mapping_at-m.result c.if-mb-ge-MEGABYTES.false _ refl c.in-1.is

pub returns-in-1 : goal.returns-in-1
returns-in-1 c known room =
    let ms = mappings c.args.records.now in
    let m = c.mapping_at-m in
    let lt = c.if-mb-ge-MEGABYTES.false in
    let mb = m.result.at.0 / 2 ^ 20 in
    let n = names_coarse (table_of ms mb) (table_start megabytes ms mb) _ (start_even ms mb) (known mb lt) c.in-1.is in
    mapping-page ms c.args.j m.result m.ensures c.requires.1 c.args.out.now room mb lt refl (Some Table.Coarse) n.0 _ c.write_page-in-1.new.out n.1 (λ z. omega arith)
    c.write_page-in-1.ensures

pub returns-in_default : goal.returns-in_default
returns-in_default c known room =
    let ms = mappings c.args.records.now in
    let m = c.mapping_at-m in
    let lt = c.if-mb-ge-MEGABYTES.false in
    let mb = m.result.at.0 / 2 ^ 20 in
    mapping_section ms c.args.j m.result m.ensures c.requires.1 c.args.out.now room mb lt refl None
    (names_none (table_of ms mb) (table_start megabytes ms mb) _ (start_even ms mb) (known mb lt) (λ e. omega arith) (λ e. omega arith))
    c.section_word.result c.write_run.new.out c.section_word.ensures refl
    c.write_run.ensures
