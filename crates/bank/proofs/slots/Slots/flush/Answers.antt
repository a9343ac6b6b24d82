use Rattle.bank.specs.Changes.{with_cams}
use Rattle.bank.proofs.Names.{refl, ◌∙◌, ap}
use Rattle.bank.proofs.Changed.{flush_drops}
use Rattle.bank.proofs.slots.Slots.flush.Goals as goal

pub renew-requires : goal.renew-requires
renew-requires c = flush_drops c.args.self.now.bank c.args.self.now.bank _ refl c.flush_all.ensures

pub returns-clause-bank : goal.returns-clause-bank
returns-clause-bank c = c.renew.ensures.bank ∙ ap (with_cams c.args.self.now.bank) c.flush_all.ensures
