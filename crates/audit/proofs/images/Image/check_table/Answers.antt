use Rattle.audit.specs.Names.{Table, List, ℕ, ◌-◌, index_limit}
use Rattle.audit.proofs.Names.{◌∙◌, subst, sym, Scanned}
use Rattle.audit.proofs.Inside.{moved}
use Rattle.audit.proofs.Verdicts.{table_outside, table_good, table_unequal}
use Rattle.audit.proofs.images.Image.check_table.Goals as goal

pub returns-then-not-holds : goal.returns-then-not-holds
returns-then-not-holds c =
    let x = c.args in
    let m = x.self.now in
    sym (table_outside x.table m.memory.now m.base x.at.0 x.i _ (sym c.holds.ensures ∙ c.if-not-holds.true))

pub returns-in-Ok : goal.returns-in-Ok
returns-in-Ok c =
    let x = c.args in
    let m = x.self.now in
    let e = c.words.ensures in
    table_good x.table m.memory.now m.base x.at.0 x.i _ (sym c.holds.ensures ∙ c.if-not-holds.false)
    (subst (Scanned x.table m.memory.now (x.at.0 - m.base) 0 (index_limit x.table)) c.in-Ok.is
    (moved (λ (t : Table) (l : List ℕ) (o : ℕ). Scanned t l o 0 (index_limit t) c.scan.result) _ _ _ _ _ _ e.memory e.at e.table c.scan.ensures))

pub returns-in-Err : goal.returns-in-Err
returns-in-Err c =
    let x = c.args in
    let m = x.self.now in
    let e = c.words.ensures in
    table_unequal x.table m.memory.now m.base x.at.0 x.i _ _ (sym c.holds.ensures ∙ c.if-not-holds.false)
    (subst (Scanned x.table m.memory.now (x.at.0 - m.base) 0 (index_limit x.table)) c.in-Err.is
    (moved (λ (t : Table) (l : List ℕ) (o : ℕ). Scanned t l o 0 (index_limit t) c.scan.result) _ _ _ _ _ _ e.memory e.at e.table c.scan.ensures))
