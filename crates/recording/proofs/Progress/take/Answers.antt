use Rattle.recording.proofs.Progress.take.Goals as goal

pub take_by-requires : goal.take_by-requires
take_by-requires c = c.table.ensures
