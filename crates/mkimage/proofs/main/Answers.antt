use Rattle.mkimage.proofs.Names.{sym}
use Rattle.mkimage.proofs.Texts.{shown_fits}
use lib.Seq.{length-take-le}
use Rattle.mkimage.proofs.main.Goals as goal

pub slice_bounds-memory-end : goal.slice_bounds-memory-end
slice_bounds-memory-end c = shown_fits _ _ _ _ c.output-k.ensures

pub slice_bounds-write_all-end : goal.slice_bounds-write_all-end
slice_bounds-write_all-end c = sym (length-take-le _ _ (shown_fits _ _ _ _ c.output-k.ensures))
