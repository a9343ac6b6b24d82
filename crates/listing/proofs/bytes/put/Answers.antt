use Rattle.listing.proofs.Names.{◌∙◌}
use Rattle.wire.proofs.Pastes.{bytes_fit}
use Rattle.listing.proofs.bytes.put.Goals as goal

pub returns : goal.returns
returns c = c.put_bytes.ensures ∙ bytes_fit c.args.out.now c.args.at c.args.s.now c.requires
