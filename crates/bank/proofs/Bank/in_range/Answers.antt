use Rattle.bank.proofs.Ranges.{ok_is}
use Rattle.bank.proofs.Bank.in_range.Goals as goal

pub returns : goal.returns
returns c = ok_is _ _ _ c.cams_ok.ensures c.rams_ok.ensures
