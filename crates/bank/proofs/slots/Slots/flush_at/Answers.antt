use Rattle.bank.specs.Changes.{with_cams}
use Rattle.bank.proofs.Names.{refl, ◌∙◌, ap}
use Rattle.bank.proofs.Changed.{flush_at_drops}
use Rattle.bank.proofs.slots.Slots.flush_at.Goals as goal

pub renew-requires : goal.renew-requires
renew-requires c = flush_at_drops _ c.args.self.now.bank c.args.self.now.bank _ refl c.flush_entry.ensures

pub returns-clause-bank : goal.returns-clause-bank
returns-clause-bank c = c.renew.ensures.bank ∙ ap (with_cams c.args.self.now.bank) c.flush_entry.ensures
