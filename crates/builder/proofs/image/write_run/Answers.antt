use Rattle.builder.proofs.Names.{◌∙◌}
use Rattle.wire.proofs.Splices.{run_fits}
use Rattle.builder.proofs.image.write_run.Goals as goal

pub returns : goal.returns
returns c = c.put_run.ensures ∙ run_fits _ _ _ _ c.requires
