use Rattle.crc.proofs.Rows.{four_rows}
use Rattle.crc.proofs.four.Goals as goal

pub returns : goal.returns
returns c =
    λ h.
    four_rows c.args.j c.args.x _ _ _ _ c.requires c.ranges.x.fits (c.share.ensures h) (c.share-2.ensures h)
    (c.share-3.ensures h) (c.share-4.ensures h)
