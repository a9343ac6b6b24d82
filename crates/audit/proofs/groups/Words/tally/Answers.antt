use Rattle.audit.specs.Names.{Table}
use Rattle.audit.proofs.Names.{subst, sym, Tallied}
use Rattle.audit.proofs.groups.Words.tally.Goals as goal

pub returns-in-Coarse : goal.returns-in-Coarse
returns-in-Coarse c =
    let t = c.args.self.now in
    subst (λ (u : Table). Tallied u t.memory.now t.at c.args.j c.args.n c.tally_coarse.result) (sym c.in-Coarse.is) c.tally_coarse.ensures

pub returns-in-Fine : goal.returns-in-Fine
returns-in-Fine c =
    let t = c.args.self.now in
    subst (λ (u : Table). Tallied u t.memory.now t.at c.args.j c.args.n c.tally_fine.result) (sym c.in-Fine.is) c.tally_fine.ensures
