use Rattle.audit.specs.Names.{◌%◌, ◌≡◌, ℕ}
use Rattle.audit.proofs.Names.{◌∙◌, ap, sym, arith, taken_at}
use Rattle.audit.proofs.Putting.{put_same, listable_next, put_first, group_listed, group_singles}
use Rattle.audit.proofs.groups.Words.list_run.Goals as goal

pub list_word-requires : goal.list_word-requires
list_word-requires c =
    let x = c.args in
    let t = x.self.now in
    let g = c.requires in
    let e : taken_at t.table t.memory.now t.at x.j ≡ x.n = sym c.taken.ensures ∙ c.if-taken-n.true in (
      listable_next t.table t.memory.now t.at x.i x.j x.n x.from x.out.now g.run 0 1 x.j x.from x.out.now (omega arith) (omega (arith, g.some))
          (put_first t.table t.memory.now t.at x.i x.j x.from x.out.now),
      (λ _. ap (λ (r : ℕ). x.j % r) e ∙ g.aligned),
    )

pub returns-then-taken-n : goal.returns-then-taken-n
returns-then-taken-n c =
    let x = c.args in
    let t = x.self.now in
    let g = c.requires in
    let e : taken_at t.table t.memory.now t.at x.j ≡ x.n = sym c.taken.ensures ∙ c.if-taken-n.true in
    put_same _ _ x.from _ x.out.now _ (sym (group_listed t.table t.memory.now t.at x.i x.j x.n g.some g.aligned g.run.unbroken e)) c.list_word.ensures

pub list_each-requires : goal.list_each-requires
list_each-requires c =
    let x = c.args in
    let t = x.self.now in
    (c.requires.run, group_singles t.table t.memory.now t.at x.i x.j x.n _ _ c.requires (λ e. c.if-taken-n.false (c.taken.ensures ∙ e)))
