use Rattle.lanes.proofs.Names.{and_yes, lt-ltb, sym}
use Rattle.lanes.proofs.ram_ok.Goals as goal

pub returns : goal.returns
returns c = sym (and_yes _ _ (lt-ltb _ _ c.ranges.w.fits))
