use Rattle.std.proofs.lemmas.Iterator.{YieldsList-from_slice}
use Rattle.std.proofs.lemmas.Iterator.Search.{all_from_yields_List}
use Rattle.recording.proofs.Names.{◌∙◌, rules}
use Rattle.recording.proofs.Zeros.{zero_listed}
use Rattle.recording.proofs.reader.all_zero.Goals as goal

pub returns : goal.returns
returns c =
    all_from_yields_List _ _ _ _ c.all.ensures.ran (YieldsList-from_slice c.args.s.now cc) (λ x b q k. search rules)
    ∙ zero_listed c.args.s.now
