use Rattle.audit.specs.Names.{◌≡◌}
use Rattle.audit.proofs.Names.{◌∙◌, subst, sym, table_word, taken_at, Tallied}
use Rattle.audit.proofs.Equal.{all_at}
use Rattle.audit.proofs.Scans.{scanned_singles, scanned_group, broken_head, singles_broken}
use Rattle.audit.proofs.groups.Words.scan_run.Goals as goal

pub all_are-requires : goal.all_are-requires
all_are-requires c = (c.requires.1.some, c.requires.0)

pub returns-then-all_are : goal.returns-then-all_are
returns-then-all_are c =
    let x = c.args in
    let t = x.self.now in
    let g = c.requires.1 in
    let e : taken_at t.table t.memory.now t.at x.j ≡ x.n = sym c.taken.ensures ∙ c.if-taken-n.true in
    scanned_group t.table t.memory.now t.at x.j x.n g.some g.aligned e
    (all_at t.memory.now t.at (table_word t.memory.now t.at x.j) x.n x.j (sym c.all_are.ensures ∙ c.if-all_are.true))

pub returns-else-all_are : goal.returns-else-all_are
returns-else-all_are c =
    let x = c.args in
    let t = x.self.now in
    let g = c.requires.1 in
    let e : taken_at t.table t.memory.now t.at x.j ≡ x.n = sym c.taken.ensures ∙ c.if-taken-n.true in
    broken_head t.table t.memory.now t.at x.j x.n g.some g.aligned e (sym c.all_are.ensures ∙ c.if-all_are.false)

pub returns-in-Some : goal.returns-in-Some
returns-in-Some c =
    let x = c.args in
    let t = x.self.now in
    let s = subst (Tallied t.table t.memory.now t.at x.j x.n) c.in-Some.is c.tally.ensures in
    scanned_singles t.table t.memory.now t.at x.j x.n c.in-Some.pages s.0 s.1

pub scan_each-requires : goal.scan_each-requires
scan_each-requires c =
    let x = c.args in
    let t = x.self.now in
    (c.requires.0, singles_broken t.table t.memory.now t.at x.j x.n c.requires.1 (λ e. c.if-taken-n.false (c.taken.ensures ∙ e)))
