use Rattle.builder.proofs.Names.{refl, arith, length-set, start-le, size_le}
use Rattle.builder.proofs.Levels.{begun-none, begun_more, placed}
use Rattle.builder.proofs.places.place.Goals as goal

pub loop-i-init : goal.loop-i-init
loop-i-init c = record { long = refl; begun = begun-none _ _ }

pub overflow_cast-start : goal.overflow_cast-start
overflow_cast-start c =
    let l = c.loop-i in
    let s = c.start_after-start in
    omega (arith, start-le c.table_by-t.result l.end, s.ensures, l.invariant.begun.high)

pub table_word-requires : goal.table_word-requires
table_word-requires c =
    let l = c.loop-i in
    let s = c.start_after-start in
    omega (arith, start-le c.table_by-t.result l.end, s.ensures, l.invariant.begun.high)

pub overflow_add-end : goal.overflow_add-end
overflow_add-end c =
    let l = c.loop-i in
    let s = c.start_after-start in
    let t = c.table_by-t in
    omega (arith, start-le t.result l.end, s.ensures, l.invariant.begun.high, c.table_size.ensures, size_le t.result)

pub loop-i-preserved : goal.loop-i-preserved
loop-i-preserved c =
    let l = c.loop-i in
    record {
      long = simp length-set l.invariant.long;
      begun = begun_more c.args.seen.now.0 l.i l.end l.firsts l.invariant.begun c.loop-i-test.true l.invariant.long
          c.table_by-t.result c.start_after-start.result c.table_word.result c.table_size.result
          c.table_by-t.ensures c.start_after-start.ensures c.table_word.ensures c.table_size.ensures;
    }

pub returns : goal.returns
returns c =
    let l = c.loop-i in
    placed c.args.seen.now.0 l.i l.end l.firsts (omega arith) l.invariant.long l.invariant.begun
