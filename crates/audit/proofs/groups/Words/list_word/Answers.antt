use Rattle.walk.specs.declared.Unfound.{Unfound}
use Rattle.std.proofs.Common.{Result, Err}
use Rattle.audit.specs.Names.{List, ◌≡◌, ◌*◌, ◌+◌, ◌^◌, length, ℕ, records_of, Mapping, second_of, pasted, Page, Table}
use Rattle.audit.proofs.Names.{◌∙◌, ap, refl, sym, arith, taken}
use Rattle.audit.proofs.Putting.{put_none, put_same, page-listed, none-listed}
use Rattle.audit.proofs.groups.Words.list_word.Goals as goal

pub put_page-requires : goal.put_page-requires
put_page-requires c =
    let x = c.args in
    let t = x.self.now in
    let e = page-listed t.table t.memory.now t.at x.i x.j _ _ (sym (c.decode_second.ensures ∙ ap (second_of t.table) c.word.ensures) ∙ c.in-Ok.is) c.requires.1 refl in
    omega (arith, c.requires.0.records, ap length e)

pub returns-in-Ok : goal.returns-in-Ok
returns-in-Ok c =
    let x = c.args in
    let t = x.self.now in
    let e = page-listed t.table t.memory.now t.at x.i x.j _ (x.i * 2 ^ 20 + x.j * c.span.result)
    (sym (c.decode_second.ensures ∙ ap (second_of t.table) c.word.ensures) ∙ c.in-Ok.is) c.requires.1 (ap (λ (r : ℕ). x.i * 2 ^ 20 + x.j * r) c.span.ensures) in (
      omega (arith, ap length e),
      c.put_page.ensures ∙ ap (λ (ms : List Mapping). pasted x.out.now x.at (records_of ms)) (sym e),
    )

refused : (t : Table) (f : Result Page Unfound) (e : Unfound) → f ≡ Err e → taken t f ≡ 0
refused t f Unfound.NoPage h = ap (taken t) h
refused t f Unfound.Missing h = ap (taken t) h

pub returns-in_default : goal.returns-in_default
returns-in_default c =
    let x = c.args in
    let t = x.self.now in
    put_same _ _ x.at x.at x.out.now x.out.now
    (sym (none-listed t.table t.memory.now t.at x.i x.j _ (sym (c.decode_second.ensures ∙ ap (second_of t.table) c.word.ensures)) (refused t.table _ _ c.in_default.is)))
    (put_none x.at x.out.now)
